-- `sensitive::put_text` meets its contract: the loop's invariant is that the encoding of the characters that the iterator has given is the first `n`
-- bytes of out. What is required says that the text is well formed and that its encoding is as long as out, so each character has room.
-- Assumes nothing.
use mathlib.Core.Path.{◌≡◌, refl, sym, ap, ◌∙◌}
use native.Mathlib.Omega.{arith}
use lib.ListN.{length}
use lib.Seq.{take_all}
use borrow.Author.Rules.{rules}
use Rattle.std.specs.Prelude.{Some}
use Rattle.sensitive.specs.Utf16.{utf16les}
use Rattle.sensitive.proofs.Utf16.{spells, put_room, put_more}
use Rattle.sensitive.proofs.Given.{given_all, given_bad, encodes_none, encodes_more, encodes_fits}
use Rattle.sensitive.proofs.put_text.Goals as goal

pub loop-point-init : goal.loop-point-init
unfolding utf16les
loop-point-init c = (encodes_none c.into_iter-point-iterator.ensures.into_iter_gives c.new-point-items.ensures.text c.new-point-items.ensures.at, refl)

pub returns-in_default : goal.returns-in_default
returns-in_default c =
    let e = given_bad c.loop-point.invariant.0.given c.next.ensures.steps _ c.in-Some.is (rw c.in_default.is) in
    let r = rw e at c.requires in
    cc

pub overflow_add-end : goal.overflow_add-end
overflow_add-end c =
    let r = encodes_fits c.loop-point.invariant.0 _ c.next.ensures.steps (c.in-Some.is ∙ ap Some c.in-Ok.is) c.utf16le-units.ensures c.requires in
    omega (arith, c.well_formed)

pub slice_bounds-copy_from_slice-end : goal.slice_bounds-copy_from_slice-end
slice_bounds-copy_from_slice-end c =
    let r = encodes_fits c.loop-point.invariant.0 _ c.next.ensures.steps (c.in-Some.is ∙ ap Some c.in-Ok.is) c.utf16le-units.ensures c.requires in
    search rules

pub copy_from_slice-requires : goal.copy_from_slice-requires
copy_from_slice-requires c =
    let r = encodes_fits c.loop-point.invariant.0 _ c.next.ensures.steps (c.in-Some.is ∙ ap Some c.in-Ok.is) c.utf16le-units.ensures c.requires in
    rw c.as_slice.ensures (put_room c.loop-point.out c.loop-point.n _ (spells _ _ c.utf16le-units.ensures) (omega arith))

pub loop-point-preserved : goal.loop-point-preserved
loop-point-preserved c =
    let r = encodes_fits c.loop-point.invariant.0 _ c.next.ensures.steps (c.in-Some.is ∙ ap Some c.in-Ok.is) c.utf16le-units.ensures c.requires in (
      encodes_more c.loop-point.invariant.0 c.next.ensures.steps (c.in-Some.is ∙ ap Some c.in-Ok.is) c.utf16le-units.ensures,
      put_more c.loop-point.out c.loop-point.n _ (spells _ _ c.utf16le-units.ensures) (omega arith) _ _ _ c.loop-point.invariant.1
          (c.copy_from_slice.ensures.after ∙ c.as_slice.ensures),
    )

pub returns : goal.returns
returns c =
    let e = given_all c.loop-point.invariant.0.given c.next.ensures.steps c.in-None.is in
    let r = rw e at c.requires in
    let l : length (utf16les c.loop-point.invariant.0.ps) ≡ length c.args.out.now = cc in
    let n = c.loop-point.invariant.0.count in
    rw e (ap Some (sym c.loop-point.invariant.1 ∙ take_all c.loop-point.n c.loop-point.out (omega arith)))
