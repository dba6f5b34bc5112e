-- `sealing::find_zero` meets its contract: the stream's zero record is that of the records that the walker has left.
-- Assumes nothing.
use mathlib.Core.Path.{◌≡◌, sym, ◌∙◌}
use Rattle.binary_office.specs.Walk.{walk_at}
use Rattle.binary_office.proofs.Along.{records_end_lem, records_fault}
use Rattle.binary_office.proofs.Records.{met_record, met_fault, met_end, gave_record, gave_fault}
use Rattle.binary_office.proofs.Walks.{record_within}
use Rattle.sealing.specs.Seal.{zero_record, zero_of}
use Rattle.sealing.proofs.ZeroRecords.{zero_filepass, zero_on, zero_here, no_zero}
use Rattle.sealing.proofs.find_zero.Goals as goal

pub returns-in_default : goal.returns-in_default
returns-in_default c =
    let s = c.args.plain.now in
    let fault = met_fault s _ _ c.loop-record.invariant.0 _ (gave_fault _ _ _ c.in-Some.ensures.steps _ c.in_default.is) in
    sym (c.loop-record.invariant.1 ∙ no_zero s _ (records_fault s _ _ fault))

pub returns-then-next-eq47 : goal.returns-then-next-eq47
returns-then-next-eq47 c =
    let s = c.args.plain.now in
    let met = met_record s _ _ c.loop-record.invariant.0 _ (gave_record _ _ _ c.in-Some.ensures.steps _ c.in-Ok.is) in
    sym (c.loop-record.invariant.1 ∙ zero_filepass s _ _ _ met.found c.if-next-eq47.true)

pub zero_at-requires : goal.zero_at-requires
zero_at-requires c =
    let s = c.args.plain.now in
    let met = met_record s _ _ c.loop-record.invariant.0 _ (gave_record _ _ _ c.in-Some.ensures.steps _ c.in-Ok.is) in
    record_within s c.in-Ok.next.at c.in-Ok.next.id c.in-Ok.next.len (rw met.at met.found)

pub returns-then-not-never_encrypted : goal.returns-then-not-never_encrypted
returns-then-not-never_encrypted c =
    let s = c.args.plain.now in
    let met = met_record s _ _ c.loop-record.invariant.0 _ (gave_record _ _ _ c.in-Some.ensures.steps _ c.in-Ok.is) in
    let here : zero_of s ≡ zero_record s (walk_at s c.in-Ok.next.at).records = rw met.at c.loop-record.invariant.1 in
    let other = sym c.never_encrypted.ensures ∙ c.if-not-never_encrypted.true in
    c.zero_at.ensures
    ∙ sym (here ∙ zero_here s c.in-Ok.next.at c.in-Ok.next.id c.in-Ok.next.len (rw met.at met.found) c.if-next-eq47.false other)

pub loop-record-preserved : goal.loop-record-preserved
loop-record-preserved c =
    let s = c.args.plain.now in
    let met = met_record s _ _ c.loop-record.invariant.0 _ (gave_record _ _ _ c.in-Some.ensures.steps _ c.in-Ok.is) in
    let never = sym c.never_encrypted.ensures ∙ c.if-not-never_encrypted.false in
    (met.on, rw met.moved (c.loop-record.invariant.1 ∙ zero_on s _ _ _ met.found c.if-next-eq47.false never))

pub returns : goal.returns
returns c =
    let s = c.args.plain.now in
    sym (c.loop-record.invariant.1 ∙ no_zero s _ (records_end_lem s _ (met_end s _ _ c.loop-record.invariant.0 c.in-None.ensures.steps)))
