-- `sensitive::utf16le_len` meets its contract: the loop's invariant is that the encoding of the characters that the iterator has given takes `len`
-- bytes, at most two for each byte of the text, so that no sum wraps.
-- Assumes nothing.
use mathlib.Core.Path.{ap, ◌∙◌}
use native.Mathlib.Omega.{arith}
use Rattle.std.specs.Prelude.{Some}
use Rattle.sensitive.proofs.Given.{from_ok, given_all, given_bad, encodes_none, encodes_more}
use Rattle.sensitive.proofs.utf16le_len.Goals as goal

pub loop-point-init : goal.loop-point-init
loop-point-init c = encodes_none c.into_iter-point-iterator.ensures.into_iter_gives c.new-point-items.ensures.text c.new-point-items.ensures.at

pub loop-point-preserved : goal.loop-point-preserved
loop-point-preserved c =
    encodes_more c.loop-point.invariant c.next.ensures.steps (c.in-Some.is ∙ ap Some (from_ok _ _ c.in_ok-ok.ensures.value)) c.utf16le.ensures

pub overflow_add-len : goal.overflow_add-len
overflow_add-len c =
    let w = loop-point-preserved c in
    omega (arith, w.given.passed.short, w.given.passed.inside, c.well_formed)

pub returns-in_err-ok : goal.returns-in_err-ok
returns-in_err-ok c =
    rw (c.from_residual.ensures, given_bad c.loop-point.invariant.given c.next.ensures.steps _ c.in-Some.is c.in_err-ok.ensures.value)

pub returns : goal.returns
returns c = rw (given_all c.loop-point.invariant.given c.next.ensures.steps c.in-None.is) (ap Some c.loop-point.invariant.count)
