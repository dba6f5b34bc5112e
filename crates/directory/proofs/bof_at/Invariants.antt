-- `directory::bof_at` meets its contract: the walk from each header on finds the header that is asked for where the whole walk does.
-- Assumes nothing.
use mathlib.Core.Path.{◌≡◌}
use Rattle.binary_office.specs.Walk.{walk_at, walk}
use Rattle.binary_office.proofs.Records.{On}
use Rattle.directory.specs.Directory.{bof_at}
use Rattle.directory.proofs.bof_at.Given as goal

abbrev pub invariant-loop-record : goal.invariant-loop-record
invariant-loop-record l = On l.stream l.record-iterator × (bof_at (walk_at l.stream l.record-iterator.pos).records l.offset ≡ bof_at (walk l.stream).records l.offset)
