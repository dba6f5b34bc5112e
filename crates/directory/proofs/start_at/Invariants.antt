-- `directory::start_at` meets its contract: the start at the place is that of the records from the offset on, with those before it counted off.
-- Assumes nothing.
use Prim.Native.Nat.{◌-◌}
use Rattle.directory.proofs.Search.{Sought}
use Rattle.directory.proofs.start_at.Given as goal

abbrev pub invariant-loop : goal.invariant-loop
invariant-loop l = Sought l.stream l.place l.at (l.place - l.counter)
