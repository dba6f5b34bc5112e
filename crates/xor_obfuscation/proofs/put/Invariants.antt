-- `xor_obfuscation::put` meets its contract: after i turns the first i bytes are written.
-- Assumes nothing.
use Rattle.std.proofs.Common.{ℕ, ◌+◌, ◌-◌, get_or}
use Rattle.laws.proofs.Written.{Written}
use Rattle.xor_obfuscation.proofs.put.Given as goal

abbrev pub invariant-loop-i : goal.invariant-loop-i
invariant-loop-i l = Written (λ (o : ℕ). get_or l.b-items (o - l.at) 0) l.at (l.at + l.i) l.initial.dst l.dst
