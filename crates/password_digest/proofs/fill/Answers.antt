-- `password_digest::fill` meets its contract: the loop's invariant is that the block's bytes and those to come make the same as at the start,
-- and that the bytes left go down by one for each that is put.
-- Assumes nothing.
use Rattle.std.proofs.Common.{arith, length-set}
use Rattle.password_digest.proofs.Filling.{goes_more, goes_all}
use Rattle.password_digest.proofs.fill.Goals as goal

pub loop-i-preserved : goal.loop-i-preserved
loop-i-preserved c =
    let i = c.loop-i.invariant in
    let t = c.in-Some.ensures in
    let l = t.nearer in
    (simp length-set i.0, omega arith, λ m w. goes_more _ _ _ _ _ _ _ _ (omega arith) t m (i.2 m w))

pub returns-in-None : goal.returns-in-None
returns-in-None c =
    let i = c.loop-i.invariant in
    record { fewer = i.1; goes = i.2; all = λ h m w. goes_all c.args.text.now _ _ _ _ c.in-None.ensures m (i.2 m w) }
