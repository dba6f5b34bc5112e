-- `survey::tally_records` meets its contract: what was tallied and what the walker has left make the whole.
-- Assumes nothing.
use Rattle.std.proofs.Common.{arith}
use Rattle.binary_office.proofs.Records.{starts, gave_record, gave_fault}
use Rattle.survey.proofs.Tallied.{tallied_none, tallied_more, tallied_fits, tallied_fault, tallied_all, before_filepass, behind_filepass}
use Rattle.survey.proofs.tally_records.Goals.{then-is_none, else-is_none}
use Rattle.survey.proofs.tally_records.Goals as goal

pub loop-record-init : goal.loop-record-init
loop-record-init c = rw (starts c.args.stream 0 _ _ c.into_iter-record-iterator.ensures.into_iter_gives c.biff_records-record-items.ensures)
    (tallied_none c.args.stream.now)

pub overflow_add-enciphered : goal.overflow_add-enciphered
overflow_add-enciphered c =
    let fits = tallied_fits c.args.stream.now _ _ _ _ _ _ c.loop-record.invariant _ _ (gave_record _ _ _ c.in-Some.ensures.steps _ c.in-Ok.is).in_order in
    let bytes = c.enciphered_len.ensures in
    record { fits = omega arith }

pub overflow_add-records : goal.overflow_add-records
overflow_add-records c =
    let fits = tallied_fits c.args.stream.now _ _ _ _ _ _ c.loop-record.invariant _ _ (gave_record _ _ _ c.in-Some.ensures.steps _ c.in-Ok.is).in_order in
    record { fits = omega arith }

pub loop-record-preserved : goal.loop-record-preserved
loop-record-preserved c =
    let g = gave_fault _ _ _ c.in-Some.ensures.steps _ c.in-Err.is in
    rw g.over (tallied_fault c.args.stream.now _ _ _ _ _ _ c.loop-record.invariant _ g.in_order)

pub returns : goal.returns
returns c = tallied_all c.args.stream.now _ _ _ _ _ _ c.loop-record.invariant c.in-None.ensures.steps.over

pub loop-record-preserved-in-Ok : goal.loop-record-preserved-in-Ok
loop-record-preserved-in-Ok c =
    let more = tallied_more c.args.stream.now _ _ _ _ _ _ c.loop-record.invariant _ _ (gave_record _ _ _ c.in-Some.ensures.steps _ c.in-Ok.is).in_order in
    rw c.enciphered_len.ensures
    (elim c.if-is_none.branch [
      | then-is_none w ↦ rw (w.filepass-is, w.other-is, w.filepass_in-filepass.ensures, w.other_on-other.ensures)
          (before_filepass c.args.stream.now _ _ _ _ _ _ _ w.if-is_none.ensures more)
      | else-is_none w ↦ rw (w.filepass-is, w.other-is) (behind_filepass c.args.stream.now _ _ _ _ _ _ _ w.if-is_none.ensures more)
    ])
