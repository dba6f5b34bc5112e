-- `excel97::restore` meets its contract: the records up to where the walker stands have their own headers and clear parts, and behind them what is left of the stream is put back.
-- Assumes nothing.
use mathlib.Core.Path.{ap}
use Prim.Native.Nat.{ℕ, ◌+◌}
use lib.ListN.{get_or}
use Rattle.binary_office.specs.declared.BiffRecord.{BiffRecord}
use Rattle.binary_office.proofs.Records.{gave_record}
use Rattle.excel97.proofs.Records.{meets, stands_last}
use Rattle.excel97.proofs.Through.{through_kept, through_rest}
use Rattle.excel97.proofs.restore.Goals as goal

pub loop-record-preserved-in-Ok : goal.loop-record-preserved-in-Ok
loop-record-preserved-in-Ok c =
    let m = meets _ _ _ _ c.loop-record.invariant.0 _ (gave_record _ _ _ c.in-Some.ensures.steps _ c.in-Ok.is) in (
      m.on,
      through_kept c.args.stream.now _ _ _ m.reached m.found c.args.output.now _ _ _
          (ap (λ (n : ℕ). c.in-Ok.next.at + 4 + n) c.clear_len-clear.ensures) (rw m.here c.loop-record.invariant.1) c.copy_clear.ensures,
    )

pub returns : goal.returns
returns c =
    let w = c.loop-record.invariant.0 in
    through_rest c.args.stream.now (λ (r : BiffRecord) (o x : ℕ). get_or c.args.output.now o 0) _ w.reached
    (stands_last _ _ _ _ w c.in-None.ensures.steps) c.args.output.now _ _ c.loop-record.invariant.1 c.copy.ensures
