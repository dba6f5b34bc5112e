-- `sha_1::load` meets its contract: after each turn one word more of the block is loaded.
-- Assumes nothing.
use Rattle.std.proofs.Common.{refl, length-set}
use Rattle.sha_1.proofs.Schedule.{none_yet, load_more}
use Rattle.sha_1.proofs.load.Goals as goal

pub loop-t-init : goal.loop-t-init
loop-t-init c = (refl, none_yet _)

pub loop-t-preserved : goal.loop-t-preserved
loop-t-preserved c =
    let i = c.loop-t.invariant in
    (simp length-set i.0, load_more c.args.block.now c.loop-t.w c.loop-t.t c.from_be_bytes.result c.loop-t-test.true i.0 i.1 c.from_be_bytes.ensures)
