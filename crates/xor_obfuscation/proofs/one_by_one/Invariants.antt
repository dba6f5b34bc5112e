-- `xor_obfuscation::one_by_one` meets its contract: after k turns the first k bytes are put through;
-- the start is reduced modulo 16 before the sum, which changes no remainder.
-- Assumes nothing.
use Rattle.laws.proofs.Written.{Written}
use Rattle.xor_obfuscation.specs.Xor.{transformed_at}
use Rattle.xor_obfuscation.proofs.one_by_one.Given as goal

abbrev pub invariant-loop-k : goal.invariant-loop-k
invariant-loop-k g l = Written (transformed_at g.D.Direction.way l.array l.index l.src) 0 l.k l.initial.dst l.dst
