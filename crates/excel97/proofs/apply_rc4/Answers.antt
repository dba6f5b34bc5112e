-- `excel97::apply_rc4` meets its contract: nothing is written where there is no room; else the stream's own bytes are put back where they belong, and the keys are
-- those of its blocks.
-- Assumes nothing.
use Prim.Native.Nat.{ℕ, ◌≤◌, ◌<◌}
use native.Mathlib.Omega.{arith}
use Rattle.block_keys.specs.BlockKeys.{block_key}
use Rattle.excel97.specs.Steps.{rc4_at}
use Rattle.excel97.proofs.Through.{through_room}
use Rattle.excel97.proofs.Unlocked.{all_keys, restored}
use Rattle.excel97.proofs.apply_rc4.Goals as goal

no : (a b : ℕ) → a ≤ b → b < a → ⊥
no a b h k = omega arith

pub returns : goal.returns
returns c = record {
  through = through_room c.args.stream.now (rc4_at c.args.schedule) c.args.output.now _ c.if-output-stream.false
      (restored c.args.stream.now c.args.output.now _ _ (block_key c.args.schedule) _ c.if-output-stream.false c.decrypt_in_blocks-keys.ensures c.restore.ensures);
  counted = λ k. all_keys c.args.stream.now c.args.output.now _ _ (block_key c.args.schedule) _ c.if-output-stream.false c.decrypt_in_blocks-keys.ensures c.restore.ensures;
  uncounted = λ k. absurd (no _ _ c.if-output-stream.false k);
}
