-- `survey::survey` meets its contract: question 4 by the length, 6 and 7 by the fault at which the walk ends, and those behind them by what was tallied.
-- Assumes nothing.
use mathlib.Core.Path.{◌≡◌, sym, ap, ◌∙◌}
use Rattle.std.specs.Prelude.{Option}
use Prim.Native.Nat.{ℕ}
use Rattle.std.proofs.Common.{arith}
use Rattle.std.proofs.lemmas.Grind.{common_steps}
use Rattle.binary_office.specs.Walk.{walk}
use Rattle.file_params.specs.Questions.{asked, unless, in_order}
use Rattle.file_params.proofs.Laws.{unless_refused, unless_passed}
use Rattle.survey.specs.declared.Tally.{Tally}
use Rattle.survey.specs.Steps.{tally_of}
use Rattle.survey.proofs.Asked.{too_large, out_of_walk, walked}
use Rattle.survey.proofs.survey.Goals as goal

pub returns-then-stream-gt-LEGACY_STREAM_READ_CAP : goal.returns-then-stream-gt-LEGACY_STREAM_READ_CAP
returns-then-stream-gt-LEGACY_STREAM_READ_CAP c = too_large _ c.if-stream-gt-LEGACY_STREAM_READ_CAP.true

pub returns-in_err-check_records : goal.returns-in_err-check_records
unfolding tally_of
returns-in_err-check_records c =
    let s = c.args.stream.now in
    let fault : c.tally_records-tally.result.fault ≡ (walk s).fault = ap (λ (t : Tally). t.fault) c.tally_records-tally.ensures in
    let told = ap (λ (f : Option ℕ). unless tt (asked (in_order f (walk s).records))) (sym fault) ∙ sym c.check_records.ensures ∙ c.in_err-check_records.was in
    let refused = out_of_walk s c.if-stream-gt-LEGACY_STREAM_READ_CAP.false _ (unless_refused tt _ _ told) in
    grind (arith, common_steps, refused)

pub returns : goal.returns
unfolding tally_of
returns c =
    let s = c.args.stream.now in
    let fault : c.tally_records-tally.result.fault ≡ (walk s).fault = ap (λ (t : Tally). t.fault) c.tally_records-tally.ensures in
    let told = ap (λ (f : Option ℕ). unless tt (asked (in_order f (walk s).records))) (sym fault) ∙ sym c.check_records.ensures ∙ c.in_ok-check_records.was in
    c.check_locked.ensures ∙ walked s c.if-stream-gt-LEGACY_STREAM_READ_CAP.false (unless_passed tt _ _ told)
