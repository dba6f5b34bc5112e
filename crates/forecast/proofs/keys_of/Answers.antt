-- `forecast::keys_of` meets its contract: the two locks.
-- Assumes nothing.
use mathlib.Core.Path.{◌≡◌, ap, ◌∙◌}
use Prim.Native.Nat.{ℕ, ◌+◌}
use native.Mathlib.Omega.{arith}
use Rattle.std.specs.Int.{div_ceil}
use Rattle.block_keys.specs.BlockKeys.{started_blocks}
use Rattle.forecast.proofs.keys_of.Goals as goal

-- the started blocks, as a quotient rounded up
rounded_up : (n : ℕ) → div_ceil n 1024 ≡ started_blocks 1024 n
unfolding started_blocks
rounded_up n = omega arith

pub returns-in-Rc4 : goal.returns-in-Rc4
returns-in-Rc4 c = rw c.in-Rc4.is (ap (λ (n : ℕ). 1 + n) (c.div_ceil.ensures ∙ rounded_up c.args.bytes))
