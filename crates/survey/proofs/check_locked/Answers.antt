-- `survey::check_locked` meets its contract: each way out is one question, and the FILEPASS body is read by its own.
-- Assumes nothing.
use mathlib.Core.Path.{sym, ◌∙◌}
use Rattle.std.proofs.Common.{arith}
use Rattle.std.proofs.lemmas.Grind.{common_steps}
use Rattle.laws.proofs.Results.{ok_or_ok}
use Rattle.survey.proofs.Asked.{not_encrypted, out_of_order, place, lock_refused, lock_read, body_inside, body_slice}
use Rattle.survey.proofs.check_locked.Goals as goal

pub returns-in_err-filepass : goal.returns-in_err-filepass
returns-in_err-filepass c = grind (arith, common_steps, not_encrypted)

pub returns-in-Some : goal.returns-in-Some
returns-in-Some c = grind (arith, common_steps, out_of_order)

pub overflow_add-start : goal.overflow_add-start
overflow_add-start c =
    let found = sym (ok_or_ok _ _ _ (sym c.ok_or.ensures.value ∙ c.in_ok-filepass.was)) in
    let inside = body_inside c.args.stream.now _ (place c.args.stream.now c.args.tally c.requires _ found) in
    omega (arith, c.well_formed)

pub overflow_add-end : goal.overflow_add-end
overflow_add-end c =
    let found = sym (ok_or_ok _ _ _ (sym c.ok_or.ensures.value ∙ c.in_ok-filepass.was)) in
    let inside = body_inside c.args.stream.now _ (place c.args.stream.now c.args.tally c.requires _ found) in
    omega (arith, c.well_formed)

pub slice_bounds-find_lock-end : goal.slice_bounds-find_lock-end
slice_bounds-find_lock-end c =
    let found = sym (ok_or_ok _ _ _ (sym c.ok_or.ensures.value ∙ c.in_ok-filepass.was)) in
    body_inside c.args.stream.now _ (place c.args.stream.now c.args.tally c.requires _ found)

pub returns-in_err-scheme : goal.returns-in_err-scheme
returns-in_err-scheme c =
    let found = sym (ok_or_ok _ _ _ (sym c.ok_or.ensures.value ∙ c.in_ok-filepass.was)) in
    let here = place c.args.stream.now c.args.tally c.requires _ found in
    let refused = lock_refused c.args.stream.now c.args.tally c.requires _ found c.in_default.is _ (body_slice c.args.stream.now _ here) _
    (sym c.find_lock.ensures ∙ c.in_err-scheme.was) in
    grind (arith, common_steps, refused)

pub returns : goal.returns
returns c =
    let found = sym (ok_or_ok _ _ _ (sym c.ok_or.ensures.value ∙ c.in_ok-filepass.was)) in
    let here = place c.args.stream.now c.args.tally c.requires _ found in
    lock_read c.args.stream.now c.args.tally c.requires _ found c.in_default.is _ (body_slice c.args.stream.now _ here) _
    (sym c.find_lock.ensures ∙ c.in_ok-scheme.was)
