-- `excel97::open_stream` meets its contract: what the stream alone decides, and the password behind it.
-- Assumes nothing.
use mathlib.Core.Path.{◌≡◌, sym, ◌∙◌}
use Rattle.std.specs.Prelude.{Err}
use Rattle.std.proofs.Common.{arith}
use Rattle.std.proofs.lemmas.Grind.{common_steps}
use Rattle.file_params.specs.Questions.{asked}
use Rattle.file_params.proofs.Laws.{unless_refused, unless_passed, unless_told}
use Rattle.survey.specs.Survey.{book_of, alone, surveyed}
use Rattle.survey.proofs.Told.{fitting}
use Rattle.excel97.proofs.Settled.{refused_alone}
use Rattle.excel97.proofs.open_stream.Goals as goal

pub open_locked-requires : goal.open_locked-requires
unfolding surveyed
open_locked-requires c =
    let s = c.args.stream.now in
    let told = sym c.survey.ensures ∙ c.in_ok-surveyed.was in (
      unless_passed (book_of s) _ (asked (alone s)) told ∙ fitting s c.requires.0,
      unless_told (book_of s) _ (asked (alone s)) told,
      c.requires.1,
    )

pub returns-in_err-surveyed : goal.returns-in_err-surveyed
unfolding surveyed
returns-in_err-surveyed c =
    let s = c.args.stream.now in
    let told = sym c.survey.ensures ∙ c.in_err-surveyed.was in
    let refused : c.from_residual.result ≡ Err c.in_err-surveyed.field-0.0 = grind (arith, common_steps) in
    rw refused
    (refused_alone s c.args.password.now c.args.scratch.now c.args.output.now _ (unless_refused (book_of s) (asked (alone s)) _ told ∙ fitting s c.requires.0))
