-- `directory::next_sheet` meets its contract: from where the walker is on, the BoundSheet8 records are those from the start of the search on.
-- Assumes nothing.
use mathlib.Core.Path.{◌≡◌, sym, ◌∙◌}
use mathlib.Core.List.{List}
use Prim.Native.Nat.{ℕ}
use Rattle.binary_office.specs.declared.BiffRecord.{BiffRecord}
use Rattle.binary_office.specs.Walk.{walk_at}
use Rattle.binary_office.proofs.Along.{records_end_lem, records_fault}
use Rattle.binary_office.proofs.Records.{met_record, met_fault, met_end, gave_record, gave_fault}
use Rattle.directory.specs.Directory.{bound_sheets}
use Rattle.directory.specs.Steps.{Follows}
use Rattle.directory.proofs.Records.{no_sheets, sheet_here, sheet_on}
use Rattle.directory.proofs.next_sheet.Goals as goal

-- what follows an offset with the same BoundSheet8 records
follows : (s : List ℕ) (from at : ℕ) (r : BiffRecord) → bound_sheets (walk_at s at).records ≡ bound_sheets (walk_at s from).records → Follows s at r → Follows s from r
follows s from at r e f = record { first = sym e ∙ f.first; within = f.within }

pub returns-in_default : goal.returns-in_default
returns-in_default c =
    let s = c.args.stream.now in
    let o = c.loop-record.invariant.0 in
    let fault = met_fault s _ _ o _ (gave_fault _ _ _ c.in-Some.ensures.steps _ c.in_default.is) in
    sym c.loop-record.invariant.1 ∙ no_sheets _ (records_fault s _ _ fault)

pub returns-then-next-eq133 : goal.returns-then-next-eq133
returns-then-next-eq133 c =
    let s = c.args.stream.now in
    let o = c.loop-record.invariant.0 in
    let met = met_record s _ _ o _ (gave_record _ _ _ c.in-Some.ensures.steps _ c.in-Ok.is) in
    follows s _ _ _ (rw met.at c.loop-record.invariant.1) (sheet_here s c.in-Ok.next.at _ _ (rw met.at met.found) c.if-next-eq133.true)

pub loop-record-preserved : goal.loop-record-preserved
loop-record-preserved c =
    let s = c.args.stream.now in
    let o = c.loop-record.invariant.0 in
    let met = met_record s _ _ o _ (gave_record _ _ _ c.in-Some.ensures.steps _ c.in-Ok.is) in
    (met.on, rw met.moved (sym (sheet_on s _ _ _ met.found c.if-next-eq133.false) ∙ c.loop-record.invariant.1))

pub returns : goal.returns
returns c =
    let s = c.args.stream.now in
    let o = c.loop-record.invariant.0 in
    sym c.loop-record.invariant.1 ∙ no_sheets _ (records_end_lem s _ (met_end s _ _ o c.in-None.ensures.steps))
