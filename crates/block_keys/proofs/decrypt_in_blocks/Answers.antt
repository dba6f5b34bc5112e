-- `block_keys::decrypt_in_blocks` meets its contract: pairs of blocks, and then what is left.
-- Assumes nothing.
use Rattle.block_keys.specs.BlockKeys.{block_key}
use Rattle.block_keys.proofs.Blocks.{no_blocks, all_blocks}
use Rattle.block_keys.proofs.decrypt_in_blocks.Goals as goal

pub returns-then-size-eq0 : goal.returns-then-size-eq0
returns-then-size-eq0 c = no_blocks c.args.size (block_key c.args.schedule) c.args.src.now c.args.dst.now c.if-size-eq0.true

pub returns : goal.returns
returns c = all_blocks c.args.size (block_key c.args.schedule) c.args.src.now c.args.dst.now c.if-size-eq0.false _ _ _ _ _ c.min-n.ensures
    c.decrypt_pairs-blocks.ensures.0 c.decrypt_pairs-blocks.ensures.1
    c.decrypt_rest.ensures.0 c.decrypt_rest.ensures.1
