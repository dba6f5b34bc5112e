-- `excel97::unlock_xor` meets its contract: the check, the loop over the records, and the blanked FILEPASS.
-- Assumes nothing.
use mathlib.Core.Path.{◌≡◌, sym, ap, ◌∙◌}
use mathlib.Core.List.{List}
use Prim.Native.Nat.{ℕ}
use Rattle.laws.specs.Choice.{pick}
use mathlib.Core.Bool.{false}
use Rattle.std.specs.Prelude.{Err, Option, Some, None}
use Rattle.std.proofs.Common.{arith}
use Rattle.std.proofs.lemmas.Grind.{common_steps}
use Rattle.laws.proofs.Results.{ok_or_ok, ok_or_err, test_none, test_some}
use Rattle.sensitive.specs.Ansi.{ansi}
use Rattle.file_params.specs.declared.Refusal.TheVariants.{WrongPassword}
use Rattle.file_params.specs.Questions.{filepass_body}
use Rattle.xor_obfuscation.specs.declared.Way.TheVariants.{Decrypt}
use Rattle.excel97.specs.Open.{xor_byte, xor_matches, array_of}
use Rattle.excel97.proofs.Unlocked.{plain_left, unlocks_no, unlocks_yes, xor_passes, xor_bytes}
use Rattle.excel97.proofs.unlock_xor.Goals as goal

pub returns-in_err-array : goal.returns-in_err-array
returns-in_err-array c =
    let s = c.args.stream.now in
    let tried : List ℕ → Option (List ℕ) = λ (b : List ℕ). pick (xor_matches b (ansi c.args.password.now)) (Some (array_of (ansi c.args.password.now))) None in
    let none = ok_or_err _ _ _ (sym c.ok_or.ensures.value ∙ c.in_err-array.was) in
    let fails : xor_matches (filepass_body s) (ansi c.args.password.now) ≡ false =
    test_none _ _ (none ∙ c.try_xor.ensures ∙ ap tried c.body_of-body.ensures) in
    let refused : c.from_residual.result ≡ Err WrongPassword = grind (arith, common_steps) in
    rw refused (unlocks_no s c.args.password.now c.args.output.now tt (xor_passes (filepass_body s) c.args.password.now c.requires.1 ∙ fails))

pub returns : goal.returns
returns c =
    let s = c.args.stream.now in
    let tried : List ℕ → Option (List ℕ) = λ (b : List ℕ). pick (xor_matches b (ansi c.args.password.now)) (Some (array_of (ansi c.args.password.now))) None in
    let some = ok_or_ok _ _ _ (sym c.ok_or.ensures.value ∙ c.in_ok-array.was) in
    let passed = test_some _ _ _ (some ∙ c.try_xor.ensures ∙ ap tried c.body_of-body.ensures) in
    unlocks_yes s c.args.password.now c.args.output.now tt _ (xor_passes (filepass_body s) c.args.password.now c.requires.1 ∙ passed.0)
    (plain_left s c.args.filepass c.requires.0.found c.args.password.now c.args.output.now _ _ (xor_byte Decrypt c.in_ok-array.array) c.requires.0.inside
    c.requires.0.room (c.apply_xor.ensures.written c.requires.0.room) (xor_bytes (filepass_body s) c.args.password.now c.requires.1 _ passed.1)
    c.blank.ensures)
