-- `block_keys::decrypt_block` meets its contract: the part comes back written by the keystream of the block's key, whose length fits.
-- Assumes nothing.
use mathlib.Core.Path.{◌∙◌}
use Prim.Native.Nat.{◌-◌}
use lib.ListN.{take, drop}
use Rattle.block_keys.specs.BlockKeys.{block_key}
use Rattle.block_keys.proofs.Answers.{slice_is, part_under}
use Rattle.block_keys.proofs.Blocks.{one_block}
use Rattle.block_keys.proofs.decrypt_block.Goals as goal

pub returns : goal.returns
returns c =
    let n = c.args.end - c.args.at in
    let key = c.as_slice.ensures ∙ slice_is c.args.schedule c.args.block _ c.key_of-key.ensures in
    one_block (block_key c.args.schedule c.args.block) c.args.src.now c.args.dst.now _ c.args.at c.args.end c.requires.0 c.requires.1 c.requires.2
    (part_under c.args.schedule c.args.block _ key c.apply_key.result
    (take n (drop c.args.at c.args.src.now)) (take n (drop c.args.at c.args.dst.now)) _ c.apply_key.ensures.value c.apply_key.ensures.dst_after)
