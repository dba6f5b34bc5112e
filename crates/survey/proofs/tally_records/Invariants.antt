-- `survey::tally_records` meets its contract: what was tallied and what the walker has left make the whole.
-- Assumes nothing.
use Rattle.binary_office.specs.Records.{walk_left}
use Rattle.survey.proofs.Tallied.{Tallied}
use Rattle.survey.proofs.tally_records.Given as goal

abbrev pub invariant-loop-record : goal.invariant-loop-record
invariant-loop-record l = Tallied l.stream (walk_left l.record-iterator) l.fault l.records l.enciphered l.filepass l.other
