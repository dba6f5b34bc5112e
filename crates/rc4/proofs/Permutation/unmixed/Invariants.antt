-- `rc4::Permutation::unmixed` meets its contract: after i turns the first i entries are 0 to i - 1.
-- Assumes nothing.
use Rattle.std.proofs.Common.{◌≡◌, ℕ, length, take}
use Rattle.laws.specs.Offsets.{tabulate}
use Rattle.rc4.proofs.Permutation.unmixed.Given as goal

abbrev pub invariant-loop-i : goal.invariant-loop-i
invariant-loop-i l = (length l.entry-items ≡ 256) × (take l.i l.entry-items ≡ tabulate (λ (n : ℕ). n) l.i)
