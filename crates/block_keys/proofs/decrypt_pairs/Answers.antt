-- `block_keys::decrypt_pairs` meets its contract: the blocks up to the offset are written.
-- Assumes nothing.
use mathlib.Core.Path.{sym, ap, ◌∙◌}
use Prim.Native.Nat.{ℕ, ◌+◌, ◌-◌, ◌/◌, ◌≤◌}
use native.Mathlib.Omega.{arith}
use Rattle.block_keys.specs.BlockKeys.{block_key}
use Rattle.block_keys.proofs.Blocks.{two_more, pair_more}
use Rattle.block_keys.proofs.decrypt_pairs.Goals as goal

room : (size n at : ℕ) → at ≤ n → size ≤ (n - at) / 2 → at + (size + size) ≤ n
room size n at h k = omega arith

pub loop-at-preserved : goal.loop-at-preserved
loop-at-preserved c = (
  ap (λ (n : ℕ). n + (c.args.size + c.args.size)) c.loop-at.invariant.0 ∙ sym (two_more c.loop-at.block c.args.size),
  room c.args.size c.args.n c.loop-at.at c.loop-at.invariant.1 c.loop-at-test.true,
  pair_more c.args.size (block_key c.args.schedule) c.args.src.now c.args.dst.now c.loop-at.dst _ c.loop-at.block c.loop-at.at c.loop-at.invariant.0 c.loop-at.invariant.2
      c.decrypt_pair.ensures,
)
