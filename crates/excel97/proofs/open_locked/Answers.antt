-- `excel97::open_locked` meets its contract: the lock that was surveyed, and the password tried on it.
-- Assumes nothing.
use mathlib.Core.Path.{◌≡◌, refl, ap, ◌∙◌}
use lib.ListN.{length, drop}
use Rattle.std.specs.Prelude.{Err}
use Rattle.std.proofs.Common.{arith}
use Rattle.std.proofs.lemmas.Grind.{common_steps}
use Rattle.file_params.specs.Questions.{filepass_body}
use Rattle.survey.proofs.Locked.{two_there, six_there}
use Rattle.survey.proofs.Told.{lock_passed}
use Rattle.excel97.specs.Steps.{Ready}
use Rattle.excel97.proofs.Settled.{same_size_lem, ready, xor_found, rc4_found, tried_no, tried_yes, xor_reported, rc4_reported}
use Rattle.excel97.proofs.open_locked.Goals as goal

pub unlock_xor-requires : goal.unlock_xor-requires
unlock_xor-requires c =
    let s = c.args.stream.now in
    let fit : Ready s c.args.output.now c.args.surveyed.filepass = ready s c.args.output.now c.args.surveyed c.requires.0 c.requires.1 c.requires.2.room in
    let xor = xor_found s c.args.surveyed c.requires.1 c.in-Xor.is in
    (fit, xor, six_there (filepass_body s) (lock_passed s c.requires.0) xor)

pub unlock_rc4-requires : goal.unlock_rc4-requires
unlock_rc4-requires c =
    let s = c.args.stream.now in
    let fit : Ready s c.args.output.now c.args.surveyed.filepass = ready s c.args.output.now c.args.surveyed c.requires.0 c.requires.1 c.requires.2.room in
    let rc4 = rc4_found s c.args.surveyed c.requires.1 (lock_passed s c.requires.0) _ c.in-Rc4.is in
    (fit, rc4.0, two_there (filepass_body s) (lock_passed s c.requires.0), rc4.1, c.requires.2)

pub returns-in_err-unlock_xor-in-Xor : goal.returns-in_err-unlock_xor-in-Xor
returns-in_err-unlock_xor-in-Xor c =
    let refused : c.from_residual.result ≡ Err c.in_err-unlock_xor-in-Xor.field-0.0 = grind (arith, common_steps) in
    rw refused
    (tried_no c.args.stream.now c.args.password.now c.args.scratch.now c.args.output.now c.requires.0 tt _ _ refl refl _ c.in_err-unlock_xor-in-Xor.ensures)

pub returns-in_ok-unlock_xor-in-Xor : goal.returns-in_ok-unlock_xor-in-Xor
returns-in_ok-unlock_xor-in-Xor c =
    let s = c.args.stream.now in
    tried_yes s c.args.password.now c.args.scratch.now c.args.output.now c.requires.0 tt _ _ refl refl _ _ c.in_ok-unlock_xor-in-Xor.ensures
    (λ e. xor_reported s c.args.surveyed c.requires.1 (xor_found s c.args.surveyed c.requires.1 c.in-Xor.is))

pub returns-in_err-block_keys-in-Rc4 : goal.returns-in_err-block_keys-in-Rc4
returns-in_err-block_keys-in-Rc4 c =
    let refused : c.from_residual-in_err-block_keys-in-Rc4.result ≡ Err c.in_err-block_keys-in-Rc4.field-0.0 = grind (arith, common_steps) in
    let wiped = c.unlock_rc4.ensures.1 in
    rw refused
    (tried_no c.args.stream.now c.args.password.now c.args.scratch.now c.args.output.now c.requires.0 _ _ _
    (ap length wiped ∙ same_size_lem c.args.scratch.now c.requires.2.wiped) (ap (drop 64) wiped) _ c.in_err-block_keys-in-Rc4.ensures.0)

pub returns-in_ok-block_keys-in-Rc4 : goal.returns-in_ok-block_keys-in-Rc4
returns-in_ok-block_keys-in-Rc4 c =
    let s = c.args.stream.now in
    let rc4 = rc4_found s c.args.surveyed c.requires.1 (lock_passed s c.requires.0) _ c.in-Rc4.is in
    let wiped = c.unlock_rc4.ensures.1 in
    tried_yes s c.args.password.now c.args.scratch.now c.args.output.now c.requires.0 _ _ _
    (ap length wiped ∙ same_size_lem c.args.scratch.now c.requires.2.wiped) (ap (drop 64) wiped) _ _ c.in_ok-block_keys-in-Rc4.ensures.0
    (λ keys. rw (c.lock_of.ensures, keys, rc4.1) (rc4_reported s c.args.surveyed c.requires.1 rc4.0))
