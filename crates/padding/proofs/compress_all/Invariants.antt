-- `padding::compress_all` meets its contract: after so many blocks the value is that of these blocks.
-- Assumes nothing.
use Rattle.std.proofs.Common.{◌≡◌, ◌≤◌, length}
use Rattle.padding.specs.Padding.{blocks}
use Rattle.padding.proofs.compress_all.Given as goal

abbrev pub invariant-loop-block : goal.invariant-loop-block
invariant-loop-block g l = (l.block-index ≤ length l.whole) × (l.v ≡ blocks g.H.BlockHash.after_block l.fn.h l.m l.block-index)
