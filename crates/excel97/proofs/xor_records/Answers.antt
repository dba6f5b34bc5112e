-- `excel97::xor_records` meets its contract: the records up to where the walker stands are written, and behind them what is left of the stream.
-- Assumes nothing.
use Rattle.binary_office.proofs.Records.{gave_record}
use Rattle.excel97.specs.Open.{xor_byte}
use Rattle.excel97.proofs.Records.{meets, stands_last}
use Rattle.excel97.proofs.Through.{up_to_record, up_to_rest}
use Rattle.excel97.proofs.xor_records.Goals as goal

pub loop-record-preserved-in-Ok : goal.loop-record-preserved-in-Ok
loop-record-preserved-in-Ok c =
    let m = meets _ _ _ _ c.loop-record.invariant.0 _ (gave_record _ _ _ c.in-Some.ensures.steps _ c.in-Ok.is) in (
      m.on,
      up_to_record c.args.stream.now (xor_byte c.args.way c.args.array.now) _ _ _ m.reached m.found c.args.output.now _ _ _
          c.xor_record.ensures.0 c.xor_record.ensures.1 (rw m.here c.loop-record.invariant.1) c.xor_record.ensures.2,
    )

pub returns : goal.returns
returns c =
    let w = c.loop-record.invariant.0 in
    up_to_rest c.args.stream.now (xor_byte c.args.way c.args.array.now) _ w.reached (stands_last _ _ _ _ w c.in-None.ensures.steps)
    c.args.output.now _ _ c.loop-record.invariant.1 c.copy.ensures
