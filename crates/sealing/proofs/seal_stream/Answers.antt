-- `sealing::seal_stream` meets its contract: the questions of the plain stream, group after group, and the sealing behind them.
-- Assumes nothing.
use mathlib.Core.Path.{◌≡◌, sym, ◌∙◌}
use Rattle.std.specs.Prelude.{Err}
use Rattle.std.proofs.Common.{arith}
use Rattle.std.proofs.lemmas.Grind.{common_steps}
use Rattle.laws.proofs.Results.{ok_or_ok, ok_or_err}
use Rattle.file_params.specs.declared.Refusal.TheVariants.{ZeroRecordMissing}
use Rattle.sealing.proofs.Outcome.{front_refused, zero_missing, length_unfit, is_ready, refused_alone}
use Rattle.sealing.proofs.seal_stream.Goals as goal

-- refused by 6, 7, 13 or 23
pub returns-in_err-check_plain : goal.returns-in_err-check_plain
returns-in_err-check_plain c =
    let counted = c.count_records-counts.ensures in
    let refused : c.from_residual.result ≡ Err c.in_err-check_plain.field-0.0 = grind (arith, common_steps) in
    rw refused
    (refused_alone c.args.job.plain.now c.args.job.password.now c.args.job.choice c.args.job.salt c.args.job.verifier c.args.scratch.now c.args.output.now _
    (front_refused c.args.job.plain.now c.args.job.choice c.count_records-counts.result counted _ c.check_plain.ensures _ c.in_err-check_plain.was))

-- no zero record
pub returns-in_err-zero : goal.returns-in_err-zero
returns-in_err-zero c =
    let counted = c.count_records-counts.ensures in
    let none = sym c.find_zero.ensures ∙ sym (ok_or_err _ _ _ (sym c.ok_or.ensures.value ∙ c.in_err-zero.was)) in
    let refused : c.from_residual-in_err-zero.result ≡ Err ZeroRecordMissing = grind (arith, common_steps) in
    rw refused
    (refused_alone c.args.job.plain.now c.args.job.password.now c.args.job.choice c.args.job.salt c.args.job.verifier c.args.scratch.now c.args.output.now _
    (zero_missing c.args.job.plain.now c.args.job.choice c.count_records-counts.result counted _ c.check_plain.ensures c.in_ok-check_plain.was none))

-- a length that does not fit
pub returns-then-not-length_fits : goal.returns-then-not-length_fits
returns-then-not-length_fits c =
    let counted = c.count_records-counts.ensures in
    let found = sym c.find_zero.ensures ∙ sym (ok_or_ok _ _ _ (sym c.ok_or.ensures.value ∙ c.in_ok-zero.was)) in
    refused_alone c.args.job.plain.now c.args.job.password.now c.args.job.choice c.args.job.salt c.args.job.verifier c.args.scratch.now c.args.output.now _
    (length_unfit c.args.job.plain.now c.args.job.choice c.count_records-counts.result counted _ c.check_plain.ensures c.in_ok-check_plain.was _ found
    (sym c.length_fits.ensures ∙ c.if-not-length_fits.true))

pub seal_in-requires : goal.seal_in-requires
seal_in-requires c =
    let counted = c.count_records-counts.ensures in
    let found = sym c.find_zero.ensures ∙ sym (ok_or_ok _ _ _ (sym c.ok_or.ensures.value ∙ c.in_ok-zero.was)) in
    is_ready c.args.job.plain.now c.args.job.choice c.count_records-counts.result counted _ c.check_plain.ensures c.in_ok-check_plain.was _ found
    (sym c.length_fits.ensures ∙ c.if-not-length_fits.false) c.args.job.password.now c.args.scratch.now c.args.output.now c.requires.0 c.requires.1 c.requires.2
