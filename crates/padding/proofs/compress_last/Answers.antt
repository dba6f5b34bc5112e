-- `padding::compress_last` meets its contract: the padded end is one block or two.
-- Assumes nothing.
use Rattle.padding.proofs.Blocks.{one_block, two_blocks}
use Rattle.padding.proofs.compress_last.Goals as goal

pub returns-then-rest-lt56 : goal.returns-then-rest-lt56
returns-then-rest-lt56 g c =
    let b = g.H.BlockHash in
    one_block b.after_block b.size_bytes c.args.h g.met.H.BlockHash.eight c.args.rest.now c.args.total c.size-size.result c.marked-block.result
    c.with_size-end.result c.size-size.ensures c.marked-block.ensures c.compress.result c.if-rest-lt56.true c.with_size-end.ensures c.compress.ensures

pub returns : goal.returns
returns g c =
    let b = g.H.BlockHash in
    two_blocks b.after_block b.size_bytes c.args.h g.met.H.BlockHash.eight c.args.rest.now c.args.total c.size-size.result c.marked-block.result
    c.with_size-end-2.result c.size-size.ensures c.marked-block.ensures c.compress-2.result c.compress-3.result c.if-rest-lt56.false c.requires
    c.with_size-end-2.ensures c.compress-2.ensures c.compress-3.ensures
