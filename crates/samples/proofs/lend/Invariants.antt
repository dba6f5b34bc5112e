-- `samples::lend` meets its contract: after k turns the first k pieces are lent, the last of them as far as there is room.
-- Assumes nothing.
use Rattle.std.proofs.Common.{◌*◌, min, length}
use Rattle.laws.proofs.Written.{Written}
use Rattle.samples.specs.Sample.{lent_at}
use Rattle.samples.proofs.lend.Given as goal

abbrev pub invariant-loop-k : goal.invariant-loop-k
invariant-loop-k l = Written lent_at 0 (min (251 * l.k) (length l.initial.buffer)) l.initial.buffer l.buffer
