-- `directory::tally_records` meets its contract: what was tallied and what the walker has left make the whole.
-- Assumes nothing.
use Rattle.std.proofs.Common.{arith, ◌≤◌}
use lib.Dec.{eqb}
use Rattle.binary_office.proofs.Records.{starts, gave_record}
use Rattle.directory.proofs.Tallied.{one_at_most, tallied_none, tallied_more, tallied_fits, tallied_all}
use Rattle.directory.proofs.tally_records.Goals as goal

pub loop-record-init : goal.loop-record-init
loop-record-init c = rw (starts c.args.stream 0 _ _ c.into_iter-record-iterator.ensures.into_iter_gives c.biff_records-record-items.ensures)
    (tallied_none c.args.stream.now)

pub paired-pairing-requires : goal.paired-pairing-requires
paired-pairing-requires c =
    let g = gave_record _ _ _ c.in-Some.ensures.steps _ c.in-Ok.is in
    let fits = tallied_fits c.args.stream.now _ _ _ _ c.loop-record.invariant _ _ g.in_order in
    let low = fits.1 in
    omega (arith, c.well_formed)

pub overflow_add-sheets : goal.overflow_add-sheets
overflow_add-sheets c =
    let g = gave_record _ _ _ c.in-Some.ensures.steps _ c.in-Ok.is in
    let fits = tallied_fits c.args.stream.now _ _ _ _ c.loop-record.invariant _ _ g.in_order in
    let few = fits.0 in
    let one : c.from-sheets.result ≤ 1 = rw c.from-sheets.ensures (one_at_most (eqb c.in-Ok.next.id 0x0085)) in
    record { fits = omega arith }

pub loop-record-preserved-in-Ok : goal.loop-record-preserved-in-Ok
loop-record-preserved-in-Ok c =
    let g = gave_record _ _ _ c.in-Some.ensures.steps _ c.in-Ok.is in
    rw (c.from-sheets.ensures, c.paired-pairing.ensures) (tallied_more c.args.stream.now _ _ _ _ c.loop-record.invariant _ _ g.in_order)

pub returns : goal.returns
returns c = tallied_all c.args.stream.now _ _ _ _ c.loop-record.invariant c.in-None.ensures.steps.over
