-- `directory::bof_at` meets its contract: the walk from each header on finds the header that is asked for where the whole walk does.
-- Assumes nothing.
use mathlib.Core.Path.{◌≡◌, refl, sym, ◌∙◌}
use mathlib.Core.List.{List}
use Prim.Native.Nat.{ℕ, ◌<◌}
use native.Mathlib.Omega.{arith}
use lib.Dec.{leb}
use Rattle.laws.specs.Choice.{pick}
use Rattle.laws.proofs.Choice.{taken, left, either}
use Rattle.binary_office.specs.Walk.{walk_at, walk}
use Rattle.binary_office.proofs.Along.{records_end_lem, records_fault}
use Rattle.binary_office.proofs.Records.{starts_on, starts_at, met_record, met_fault, met_end, gave_record, gave_fault}
use borrow.Author.Tests.{le-leb, lt-leb}
use Rattle.directory.specs.Directory.{bof_at}
use Rattle.directory.specs.Steps.{Reaches}
use Rattle.directory.proofs.Records.{no_bofs, bof_on, bof_here}
use Rattle.directory.proofs.bof_at.Goals as goal

-- the search begins at a header that the walk reaches
begun : (s : List ℕ) (from offset at : ℕ) → Reaches s from → at ≡ pick (leb from offset) from 0
    → bof_at (walk_at s at).records offset ≡ bof_at (walk s).records offset
begun s from offset at w e =
    either from offset
    (λ h. let g : at ≡ from = e ∙ taken from 0 (le-leb from offset h) in rw g (sym (w.rest offset h)))
    (λ h. let g : at ≡ 0 = e ∙ left from 0 (lt-leb from offset h) in rw g refl)

pub loop-record-init : goal.loop-record-init
loop-record-init c =
    let s = c.args.stream in
    let same = c.into_iter-record-iterator.ensures.into_iter_gives in
    let made = c.biff_records-record-items.ensures in (
      starts_on s _ _ _ same made,
      begun s.now c.args.from c.args.offset _ c.requires (starts_at s _ _ _ same made ∙ c.begin.ensures),
    )

pub returns-in_default : goal.returns-in_default
returns-in_default c =
    let s = c.args.stream.now in
    let o = c.loop-record.invariant.0 in
    let fault = met_fault s _ _ o _ (gave_fault _ _ _ c.in-Some.ensures.steps _ c.in_default.is) in
    sym (no_bofs _ c.args.offset (records_fault s _ _ fault)) ∙ c.loop-record.invariant.1

pub returns-then-offset-next : goal.returns-then-offset-next
returns-then-offset-next c =
    let s = c.args.stream.now in
    let o = c.loop-record.invariant.0 in
    let met = met_record s _ _ o _ (gave_record _ _ _ c.in-Some.ensures.steps _ c.in-Ok.is) in
    let here : bof_at (walk_at s c.in-Ok.next.at).records c.args.offset ≡ bof_at (walk s).records c.args.offset = rw met.at c.loop-record.invariant.1 in
    sym (bof_here s c.args.offset c.in-Ok.next.at c.in-Ok.next.id c.in-Ok.next.len (rw met.at met.found) c.if-offset-next.true) ∙ here

pub loop-record-preserved : goal.loop-record-preserved
loop-record-preserved c =
    let s = c.args.stream.now in
    let o = c.loop-record.invariant.0 in
    let met = met_record s _ _ o _ (gave_record _ _ _ c.in-Some.ensures.steps _ c.in-Ok.is) in (
      met.on,
      rw met.moved
          (sym (bof_on s _ _ _ met.found c.args.offset (apart _ _ (rw met.at at c.if-offset-next.false))) ∙ c.loop-record.invariant.1),
    )
  where
    apart : (a b : ℕ) → a < b → a ≡ b → ⊥
    apart a b h g = omega arith

pub returns : goal.returns
returns c =
    let s = c.args.stream.now in
    let o = c.loop-record.invariant.0 in
    sym (no_bofs _ c.args.offset (records_end_lem s _ (met_end s _ _ o c.in-None.ensures.steps))) ∙ c.loop-record.invariant.1
