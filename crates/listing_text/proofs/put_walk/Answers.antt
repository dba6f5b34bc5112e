-- `listing_text::put_walk` meets its contract: the text so far, and that of what the walker has left, make the whole; before a fault 23
-- bytes of text for each item are enough to bound it.
-- Assumes nothing.
use Rattle.std.proofs.Common.{arith, ◌≡◌, true, false, length, ap, refl, sym, ◌∙◌}
use Rattle.binary_office.proofs.Records.{starts, starts_on, starts_at, gave_record, gave_fault, fewer_records}
use Rattle.binary_office.proofs.Walks.{record_within, fault_place}
use Rattle.listing_text.proofs.Written.{listed_none, listed_on, listed_fault, listed_all, few_items}
use Rattle.listing_text.proofs.put_walk.Goals as goal

pub loop-record-init : goal.loop-record-init
loop-record-init c =
    let all = starts c.args.stream 0 _ _ c.into_iter-record-iterator.ensures.into_iter_gives c.biff_records-record-items.ensures in
    let on = starts_on c.args.stream 0 _ _ c.into_iter-record-iterator.ensures.into_iter_gives c.biff_records-record-items.ensures in
    let at = starts_at c.args.stream 0 _ _ c.into_iter-record-iterator.ensures.into_iter_gives c.biff_records-record-items.ensures in
    let few = few_items c.args.stream.now _ all in
    (on.over, omega arith, λ h. omega arith, refl, rw all (listed_none c.args.stream.now c.args.n c.args.out.now))

pub put_fault-n-requires : goal.put_fault-n-requires
put_fault-n-requires c =
    let g = gave_fault _ _ _ c.in-Some.ensures.steps _ c.in-Err.is in
    let there = fault_place _ _ _ g.found in
    let at = c.loop-record.invariant.1 in
    let few = c.loop-record.invariant.2 g.going in
    (omega arith, omega arith)

pub loop-record-preserved-in-Ok : goal.loop-record-preserved-in-Ok
loop-record-preserved-in-Ok c =
    let g = gave_record _ _ _ c.in-Some.ensures.steps _ c.in-Ok.is in
    let fewer = fewer_records _ _ _ g in
    let within = record_within _ _ _ _ g.found in
    let few = c.loop-record.invariant.2 g.going in
    let book = c.loop-record.invariant.0 in
    let size = ap length book in (
      rw g.moved book,
      rw g.moved (omega arith),
      λ h. omega (arith, c.put_line-n.ensures.1),
      c.put_line-n.auto.out ∙ c.loop-record.invariant.3,
      listed_on c.args.stream.now _ _ _ _ _ c.loop-record.invariant.4 _ _ g.in_order c.put_line-n.ensures.0,
    )

pub loop-record-preserved : goal.loop-record-preserved
loop-record-preserved c =
    let g = gave_fault _ _ _ c.in-Some.ensures.steps _ c.in-Err.is in
    let at = c.loop-record.invariant.1 in (
      rw g.stays c.loop-record.invariant.0,
      rw g.stays at,
      λ h. absurd (no (sym (ap (λ r. r.failed) g.stays) ∙ h)),
      c.put_fault-n.auto.out ∙ c.loop-record.invariant.3,
      rw g.over (listed_fault c.args.stream.now _ _ _ _ _ c.loop-record.invariant.4 _ g.in_order c.put_fault-n.ensures),
    )
  where
    no : true ≡ false → ⊥
    no e = cc

pub returns : goal.returns
returns c = listed_all c.args.stream.now _ _ _ _ _ c.loop-record.invariant.4 c.in-None.ensures.steps.over
