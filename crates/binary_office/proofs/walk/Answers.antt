-- `binary_office::walk` meets its contract: what the loop has met and what the walker has left make the whole walk.
-- Assumes nothing.
use Rattle.std.proofs.Common.{arith}
use Rattle.binary_office.proofs.Records.{starts, gave_record, gave_fault}
use Rattle.binary_office.proofs.Walks.{counted_none, counted_more, counted_fault, counted_all, counted_few}
use Rattle.binary_office.proofs.walk.Goals as goal

pub loop-record-init : goal.loop-record-init
loop-record-init c = rw (starts c.args.s 0 _ _ c.into_iter-record-iterator.ensures.into_iter_gives c.biff_records-record-items.ensures) (counted_none c.args.s.now)

pub overflow_add-records : goal.overflow_add-records
overflow_add-records c =
    let few = counted_few c.args.s.now _ _ _ c.loop-record.invariant _ _ (gave_record _ _ _ c.in-Some.ensures.steps _ c.in-Ok.is).in_order in
    record { fits = omega arith }

pub loop-record-preserved-in-Ok : goal.loop-record-preserved-in-Ok
loop-record-preserved-in-Ok c = counted_more c.args.s.now _ _ _ c.loop-record.invariant _ _ (gave_record _ _ _ c.in-Some.ensures.steps _ c.in-Ok.is).in_order

pub loop-record-preserved : goal.loop-record-preserved
loop-record-preserved c =
    let g = gave_fault _ _ _ c.in-Some.ensures.steps _ c.in-Err.is in
    rw g.over (counted_fault c.args.s.now _ _ _ c.loop-record.invariant _ g.in_order)

pub returns : goal.returns
returns c = counted_all c.args.s.now _ _ _ c.loop-record.invariant c.in-None.ensures.steps.over
