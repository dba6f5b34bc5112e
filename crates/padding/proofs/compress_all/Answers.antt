-- `padding::compress_all` meets its contract: after so many blocks the value is that of these blocks.
-- Assumes nothing.
use Rattle.std.proofs.Common.{◌<◌, ◌/◌, length, [], arith, rules}
use Rattle.padding.proofs.Blocks.{blocks_none, blocks_chunks}
use Rattle.padding.proofs.compress_all.Goals as goal

pub loop-block-init : goal.loop-block-init
loop-block-init g c = (search rules, blocks_none _ _ _)

pub loop-block-preserved : goal.loop-block-preserved
loop-block-preserved g c =
    let within : c.loop-block.block-index < length c.args.m.now / 64 = rw c.as_chunks.ensures.front_len at c.loop-block-test.true in (
      omega arith,
      blocks_chunks g.H.BlockHash.after_block c.args.h c.args.m.now c.loop-block.block-index (length c.args.m.now / 64) c.loop-block.v
          c.compress-v.result [] within c.loop-block.invariant.1 (rw c.as_chunks.ensures.front at c.compress-v.ensures),
    )
