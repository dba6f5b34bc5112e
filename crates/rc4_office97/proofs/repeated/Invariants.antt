-- `rc4_office97::repeated` meets its contract: after `i` turns the first `i` bytes are those of the list sixteen times over.
-- Assumes nothing.
use Prim.Native.Nat.{ℕ, ◌-◌, ◌%◌, ◌≤◌}
use mathlib.Core.Path.{◌≡◌}
use lib.ListN.{length, get_or, take}
use Rattle.laws.specs.Offsets.{tabulate}
use Rattle.rc4_office97.proofs.repeated.Given as goal

abbrev pub invariant-loop-i : goal.invariant-loop-i
invariant-loop-i l = (l.i ≤ 336) × (length l.unit ≡ 21) × (length l.m ≡ 336) × (take l.i l.m ≡ tabulate (λ (k : ℕ). get_or l.unit (k % 21) 0) l.i)

abbrev pub decreases-loop-i : goal.decreases-loop-i
decreases-loop-i l = 336 - l.i
