-- `excel97::open` meets its contract: questions 1 to 5 refuse and touch nothing; past them the scratch is wiped whatever is settled.
-- Assumes nothing.
use mathlib.Core.Path.{◌≡◌, refl, sym, ◌∙◌}
use lib.ListN.{length}
use Rattle.std.specs.Prelude.{Err}
use Rattle.std.proofs.Common.{arith}
use Rattle.std.proofs.lemmas.Grind.{common_steps}
use Rattle.file_params.specs.Questions.{scratch_need, asked, lent}
use Rattle.file_params.proofs.Laws.{unless_refused, unless_passed}
use Rattle.excel97.proofs.Settled.{lent_tells, refused_lent, settled_all}
use Rattle.excel97.proofs.open.Goals as goal

pub returns-in_err-check_lent : goal.returns-in_err-check_lent
returns-in_err-check_lent c =
    let all = asked (lent scratch_need c.args.password.now (length c.args.stream.now) (length c.args.scratch.now) (length c.args.output.now)) in
    let refused : c.from_residual.result ≡ Err c.in_err-check_lent.field-0.0 = grind (arith, common_steps) in
    rw refused
    (refused_lent c.args.stream.now c.args.password.now c.args.scratch.now c.args.output.now _
    (unless_refused tt all _ (sym c.check_lent.ensures ∙ c.in_err-check_lent.was)))

pub open_stream-settled-requires : goal.open_stream-settled-requires
open_stream-settled-requires c =
    let all = asked (lent scratch_need c.args.password.now (length c.args.stream.now) (length c.args.scratch.now) (length c.args.output.now)) in
    let tells =
    lent_tells c.args.password.now (length c.args.stream.now) (length c.args.scratch.now) (length c.args.output.now)
    (unless_passed tt _ all (sym c.check_lent.ensures ∙ c.in_ok-check_lent.was)) in
    (tells.0, record { formed = tells.1; wiped = tells.2; room = tells.3 })

pub returns : goal.returns
returns c =
    let all = asked (lent scratch_need c.args.password.now (length c.args.stream.now) (length c.args.scratch.now) (length c.args.output.now)) in
    let passed = unless_passed tt _ all (sym c.check_lent.ensures ∙ c.in_ok-check_lent.was) in
    let tells = lent_tells c.args.password.now (length c.args.stream.now) (length c.args.scratch.now) (length c.args.output.now) passed in
    settled_all c.args.stream.now c.args.password.now c.args.scratch.now c.args.output.now passed _ _ _ _ _ c.open_stream-settled.ensures
    (rw c.open_stream-settled.ensures.same tells.2) c.wipe.ensures.1 refl
