-- `samples::holds` meets its contract: the bytes behind the front up to the index are as they were lent.
-- Assumes nothing.
use mathlib.Core.Path.{◌≡◌}
use Prim.Native.Nat.{ℕ, ◌≤◌, ◌<◌}
use lib.ListN.{length, get_or}
use Rattle.samples.specs.Sample.{lent_at}
use Rattle.samples.proofs.holds.Given as goal

abbrev pub invariant-loop-i : goal.invariant-loop-i
invariant-loop-i l = (n : ℕ) → length l.front ≤ n → n < l.i → get_or l.buffer n 0 ≡ lent_at n
