-- `sha_1::extend` meets its contract: each turn makes one word more from four before it.
-- Assumes nothing.
use Rattle.std.proofs.Common.{length-set, arith}
use Rattle.sha_1.proofs.Schedule.{extend_more}
use Rattle.sha_1.proofs.extend.Goals as goal

pub loop-t-preserved : goal.loop-t-preserved
loop-t-preserved c =
    let i = c.loop-t.invariant in (
      simp length-set i.0,
      λ m h. extend_more m c.loop-t.w c.loop-t.t c.rotate_left.result (omega arith) (omega arith) i.0 (i.1 m h) c.rotate_left.ensures,
    )
