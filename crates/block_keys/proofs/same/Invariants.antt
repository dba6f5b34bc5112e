-- `block_keys::same` meets its contract: after i turns the first i bytes have been compared.
-- Assumes nothing.
use mathlib.Core.Path.{◌≡◌}
use Prim.Native.Nat.{◌≤◌}
use Rattle.block_keys.specs.BlockKeys.{agree}
use Rattle.block_keys.proofs.same.Given as goal

abbrev pub invariant-loop-i : goal.invariant-loop-i
invariant-loop-i l = (l.i ≤ l.n) × (l.equal ≡ agree l.a l.b l.i)
