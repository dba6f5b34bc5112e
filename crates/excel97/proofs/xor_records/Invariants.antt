-- `excel97::xor_records` meets its contract: the records up to where the walker stands are written.
-- Assumes nothing.
use lib.ListN.{length}
use Rattle.excel97.specs.Open.{xor_byte}
use Rattle.excel97.specs.Steps.{through_at}
use Rattle.excel97.proofs.Records.{Stands}
use Rattle.excel97.proofs.Through.{WrittenUpTo}
use Rattle.excel97.proofs.xor_records.Given as goal

abbrev pub invariant-loop-record : goal.invariant-loop-record
invariant-loop-record l =
    Stands l.stream l.record-iterator l.end
    × WrittenUpTo (through_at l.stream (xor_byte l.way l.array)) l.end (length l.stream) l.initial.output l.output
