-- `rc4::exclusive_or` meets its contract: after k turns the first k bytes are written, and the others are as they were.
-- Assumes nothing.
use Rattle.std.proofs.Common.{ℕ, get_or}
use Rattle.std.specs.Int.Bits.{bit_xor}
use Rattle.laws.proofs.Written.{Written}
use Rattle.rc4.proofs.exclusive_or.Given as goal

abbrev pub invariant-loop-k : goal.invariant-loop-k
invariant-loop-k l = Written (λ (o : ℕ). bit_xor (get_or l.src o 0) (get_or l.initial.dst o 0)) 0 l.k l.initial.dst l.dst
