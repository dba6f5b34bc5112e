-- `xor_obfuscation::piece` meets its contract: after i turns the first i bytes are put through.
-- Assumes nothing.
use Rattle.std.proofs.Common.{◌≡◌, ℕ, ◌+◌, get_or, length, take}
use Rattle.laws.specs.Offsets.{tabulate}
use Rattle.xor_obfuscation.specs.Xor.{ciphered}
use Rattle.xor_obfuscation.proofs.piece.Given as goal

abbrev pub invariant-loop-i : goal.invariant-loop-i
invariant-loop-i g l = (length l.b-items ≡ 16) × (take l.i l.b-items ≡ tabulate (λ (n : ℕ). ciphered g.D.Direction.way (get_or l.src (l.at + n) 0) (get_or l.twice (l.start + n) 0)) l.i)
