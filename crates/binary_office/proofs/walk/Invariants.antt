-- `binary_office::walk` meets its contract: what the loop has met and what the walker has left make the whole walk.
-- Assumes nothing.
use Rattle.binary_office.specs.Records.{walk_left}
use Rattle.binary_office.proofs.Walks.{Counted}
use Rattle.binary_office.proofs.walk.Given as goal

abbrev pub invariant-loop-record : goal.invariant-loop-record
invariant-loop-record l = Counted l.s (walk_left l.record-iterator) l.records l.fault
