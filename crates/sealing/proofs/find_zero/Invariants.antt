-- `sealing::find_zero` meets its contract: the stream's zero record is that of the records that the walker has left.
-- Assumes nothing.
use mathlib.Core.Path.{◌≡◌}
use Rattle.binary_office.specs.Walk.{walk_at}
use Rattle.binary_office.proofs.Records.{On}
use Rattle.sealing.specs.Seal.{zero_record, zero_of}
use Rattle.sealing.proofs.find_zero.Given as goal

abbrev pub invariant-loop-record : goal.invariant-loop-record
invariant-loop-record l = On l.plain l.record-iterator × (zero_of l.plain ≡ zero_record l.plain (walk_at l.plain l.record-iterator.pos).records)
