-- `directory::find_unfit` meets its contract: the records judged, and those from the offset on, decide what all of them do.
-- Assumes nothing.
use Prim.Native.Nat.{◌-◌}
use Rattle.directory.proofs.Search.{Judged}
use Rattle.directory.proofs.find_unfit.Given as goal

abbrev pub invariant-loop : goal.invariant-loop
invariant-loop l = Judged l.stream l.at l.from (l.sheets - l.counter)
