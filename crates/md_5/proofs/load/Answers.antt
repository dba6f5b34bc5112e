-- `md_5::load` meets its contract: after each turn one word more of the block is loaded.
-- Assumes nothing.
use Rattle.std.proofs.Common.{refl, length-set}
use Rattle.md_5.proofs.Steps.{load_more, none_loaded}
use Rattle.md_5.proofs.load.Goals as goal

pub loop-i-init : goal.loop-i-init
loop-i-init c = (refl, none_loaded _)

pub loop-i-preserved : goal.loop-i-preserved
loop-i-preserved c =
    let i = c.loop-i.invariant in
    (simp length-set i.0, load_more c.args.block.now c.loop-i.x c.loop-i.i c.from_le_bytes.result c.loop-i-test.true i.0 i.1 c.from_le_bytes.ensures)
