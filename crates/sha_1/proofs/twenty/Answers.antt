-- `sha_1::twenty` meets its contract: each turn is one round more, with the function and the constant of these twenty.
-- Assumes nothing.
use Rattle.std.proofs.Common.{arith}
use Rattle.sha_1.proofs.Rounds.{one_more}
use Rattle.sha_1.proofs.twenty.Goals as goal

pub loop-t-preserved : goal.loop-t-preserved
loop-t-preserved g c = λ u h.
    let t = c.loop-t.t in
    let v = c.loop-t.v in
    one_more c.args.w.now u v c.turn-v.result t c.mix.result c.args.constant (c.loop-t.invariant u h)
    (c.requires.function t v.h1 v.h2 v.h3 c.mix.result (omega arith) (omega arith) c.mix.ensures)
    (c.requires.told t (omega arith) (omega arith)) c.turn-v.ensures
