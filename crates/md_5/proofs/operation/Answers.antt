-- `md_5::operation` meets its contract: it is one operation more.
-- Assumes nothing.
use Rattle.std.proofs.Common.{arith, rules}
use Rattle.md_5.proofs.Steps.{order_fits, one_more}
use Rattle.md_5.proofs.operation.Goals as goal

pub offset_bounds-x-t : goal.offset_bounds-x-t
offset_bounds-x-t g c = let h = order_fits c.args.t c.requires.room in search rules

pub bounds-x-t : goal.bounds-x-t
bounds-x-t g c = order_fits c.args.t c.requires.room

pub returns : goal.returns
returns g c = λ u h.
    let t = c.args.t in
    let v = c.args.v in
    one_more c.args.x.now u v c.step.result t c.mix-value.result c.requires.room h
    (c.requires.function t v.b v.c v.d c.mix-value.result (omega arith) (omega arith) c.mix-value.ensures) c.step.ensures
