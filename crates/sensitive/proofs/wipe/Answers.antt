-- `sensitive::wipe` meets its contract: the first `n` bytes are filled with zeros, where there are as many.
-- Assumes nothing.
use mathlib.Core.Path.{sym}
use borrow.Author.Tests.{le-leb, lt-leb}
use lib.Seq.{length-take-le}
use Rattle.laws.proofs.Choice.{taken, left}
use Rattle.sensitive.proofs.wipe.Goals as goal

pub returns-then-buf-n : goal.returns-then-buf-n
returns-then-buf-n c = let e = lt-leb _ _ c.if-buf-n.true in (sym e, sym (left _ _ e))

pub returns : goal.returns
returns c =
    let e = le-leb _ _ c.if-buf-n.false in
    let f = c.fill.ensures.after (λ y g. g) in
    (sym e, rw (f, length-take-le _ _ c.if-buf-n.false) (sym (taken _ _ e)))
