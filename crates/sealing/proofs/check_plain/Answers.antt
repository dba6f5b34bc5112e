-- `sealing::check_plain` meets its contract: where questions 6 and 7 are passed, those of the choice are asked.
-- Assumes nothing.
use Rattle.std.specs.Prelude.{Err}
use mathlib.Core.Path.{◌≡◌, sym, ap, ◌∙◌}
use Rattle.std.proofs.Common.{arith}
use Rattle.std.proofs.lemmas.Grind.{common_steps}
use Rattle.binary_office.specs.Walk.{walk}
use Rattle.file_params.specs.Questions.{asked, in_order, unless}
use Rattle.file_params.proofs.Laws.{asked_on, asked_stop, unless_refused, unless_passed}
use Rattle.sealing.specs.Seal.{admitted}
use Rattle.sealing.proofs.check_plain.Goals as goal

pub returns-in_err-check_records : goal.returns-in_err-check_records
returns-in_err-check_records c =
    let first = in_order c.args.fault (walk c.args.plain.now).records in
    let told = sym c.check_records.ensures ∙ c.in_err-check_records.was in
    let passed_on : c.from_residual.result ≡ Err c.in_err-check_records.field-0.0 = grind (arith, common_steps) in
    passed_on ∙ ap (unless tt) (asked_stop first (admitted c.args.choice) _ (unless_refused tt (asked first) _ told))

pub returns : goal.returns
returns c =
    let first = in_order c.args.fault (walk c.args.plain.now).records in
    let told = sym c.check_records.ensures ∙ c.in_ok-check_records.was in
    c.check_choice.ensures ∙ ap (unless tt) (sym (asked_on first (admitted c.args.choice) (unless_passed tt _ (asked first) told)))
