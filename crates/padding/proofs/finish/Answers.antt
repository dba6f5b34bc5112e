-- `padding::finish` meets its contract: the whole blocks, and then what is left.
-- Assumes nothing.
use Rattle.std.proofs.Common.{ap, ◌∙◌}
use Rattle.padding.proofs.Blocks.{whole_and_left}
use Rattle.padding.proofs.finish.Goals as goal

pub returns : goal.returns
returns g c =
    let b = g.H.BlockHash in
    let hashed =
    whole_and_left b.after_block b.size_bytes c.args.h c.args.m.now c.as_chunks.result.1.now c.args.total c.compress_all-v.result c.compress_last.result
    c.compress_all-v.ensures c.as_chunks.ensures.back c.compress_last.ensures in
    c.to_digest.ensures ∙ ap b.digest_of hashed
