-- `block_keys::decrypt_pair` meets its contract: the part comes back written by the keystreams of two blocks' keys, whose lengths fit.
-- Assumes nothing.
use mathlib.Core.Path.{◌∙◌}
use Prim.Native.Nat.{◌+◌, ◌-◌}
use lib.ListN.{take, drop}
use Rattle.block_keys.specs.BlockKeys.{block_key}
use Rattle.block_keys.proofs.Answers.{slice_is, halves_under}
use Rattle.block_keys.proofs.Blocks.{two_blocks}
use Rattle.block_keys.proofs.decrypt_pair.Goals as goal

pub returns : goal.returns
returns c =
    let n = c.args.at + (c.args.size + c.args.size) - c.args.at in
    let first = c.as_slice.ensures ∙ slice_is c.args.schedule c.args.block _ c.key_of-first.ensures in
    let second = c.as_slice-2.ensures ∙ slice_is c.args.schedule (c.args.block + 1) _ c.key_of-second.ensures in
    two_blocks (block_key c.args.schedule c.args.block) (block_key c.args.schedule (c.args.block + 1)) c.args.src.now c.args.dst.now _ c.args.at c.args.size
    c.requires.2 c.requires.3
    (halves_under c.args.schedule c.args.block (c.args.block + 1) _ _ first second c.apply_halves.result (take n (drop c.args.at c.args.src.now)) (take n (drop c.args.at c.args.dst.now)) _
    c.apply_halves.ensures.value c.apply_halves.ensures.dst_after)
