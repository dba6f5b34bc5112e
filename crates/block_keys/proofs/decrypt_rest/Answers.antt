-- `block_keys::decrypt_rest` meets its contract: the blocks up to the offset are written, and only the last may be cut.
-- Assumes nothing.
use borrow.Author.Rules.{rules}
use mathlib.Core.Path.{◌≡◌, sym, ap, ◌∙◌}
use Prim.Native.Nat.{ℕ, ◌+◌, ◌-◌, ◌<◌, min}
use native.Mathlib.Omega.{arith}
use Rattle.block_keys.specs.BlockKeys.{block_key}
use Rattle.block_keys.proofs.Blocks.{one_more, started_are, block_more}
use Rattle.block_keys.proofs.decrypt_rest.Goals as goal

next : (size n at m : ℕ) → m ≡ min size (n - at) → at + m < n → m ≡ size
next size n at m e h = omega arith

pub loop-at-preserved : goal.loop-at-preserved
loop-at-preserved c = let g = c.loop-at.invariant.2 c.loop-at-test.true in
    let o = one_more c.loop-at.block c.args.size in (
      omega arith,
      omega arith,
      (λ k. ap (λ (m : ℕ). c.loop-at.at + m) (next c.args.size c.args.n c.loop-at.at _ c.min.ensures k) ∙ ap (λ (n : ℕ). n + c.args.size) g ∙ sym o),
      omega arith,
      omega arith,
      block_more c.args.size (block_key c.args.schedule) c.args.src.now c.args.dst.now c.loop-at.dst _ c.loop-at.block c.loop-at.at g _ _ c.loop-at.invariant.0 (omega arith) (omega arith)
          c.loop-at.invariant.5 c.decrypt_block.ensures,
    )

pub returns : goal.returns
returns c = let e : c.loop-at.at ≡ c.args.n = search rules in
    (started_are c.args.size c.args.n c.loop-at.block (rw (← e) c.loop-at.invariant.3) (rw (← e) c.loop-at.invariant.4), rw (← e) c.loop-at.invariant.5)
