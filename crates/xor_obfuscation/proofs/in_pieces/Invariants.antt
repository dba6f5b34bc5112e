-- `xor_obfuscation::in_pieces` meets its contract: after k turns the first k pieces are put through.
-- Assumes nothing.
use Rattle.std.proofs.Common.{◌*◌}
use Rattle.laws.proofs.Written.{Written}
use Rattle.xor_obfuscation.specs.Xor.{transformed_at}
use Rattle.xor_obfuscation.proofs.in_pieces.Given as goal

abbrev pub invariant-loop-k : goal.invariant-loop-k
invariant-loop-k g l = Written (transformed_at g.D.Direction.way l.array l.index l.src) 0 (16 * l.k) l.initial.dst l.dst
