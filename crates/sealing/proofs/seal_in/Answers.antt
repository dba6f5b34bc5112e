-- `sealing::seal_in` meets its contract: question 32 under XOR, and the sealing of each lock.
-- Assumes nothing.
use mathlib.Core.Path.{◌≡◌, sym, ◌∙◌}
use lib.ListN.{length}
use borrow.Author.Rules.{rules}
use Rattle.std.specs.Prelude.{Err, None}
use Rattle.std.proofs.Common.{arith}
use Rattle.std.proofs.lemmas.Grind.{common_steps}
use Rattle.laws.proofs.Results.{ok_or_ok, ok_or_err, made_of, none_of}
use Rattle.sensitive.specs.Ansi.{ansi}
use Rattle.file_params.specs.declared.Refusal.TheVariants.{XorPasswordUnfit}
use Rattle.excel97.specs.Steps.{xor_lock_of}
use Rattle.sealing.proofs.Settled.{counted_in, room_xor, no_xor, by_xor, room_97, by_97, room_api, by_api}
use Rattle.sealing.proofs.seal_in.Goals as goal

pub overflow_sub-rest : goal.overflow_sub-rest
overflow_sub-rest c = counted_in _ _ _ _ _ _ _ c.requires

pub returns-in_err-lock-in-Xor : goal.returns-in_err-lock-in-Xor
returns-in_err-lock-in-Xor c =
    let none = ok_or_err _ _ _ (sym c.ok_or.ensures.value ∙ c.in_err-lock-in-Xor.was) in
    let no_password : ansi c.args.job.password.now ≡ None = none_of xor_lock_of (ansi c.args.job.password.now) (none ∙ c.xor_lock.ensures) in
    let refused : c.from_residual.result ≡ Err XorPasswordUnfit = grind (arith, common_steps) in
    rw refused (no_xor _ _ c.args.job.salt c.args.job.verifier _ _ _ _ c.args.job.choice c.requires c.in-Xor.is no_password)

pub lock_xor-requires : goal.lock_xor-requires
lock_xor-requires c = room_xor _ _ c.args.job.salt c.args.job.verifier _ _ _ _ c.args.job.choice c.requires c.in-Xor.is

pub lock_office97-keys-requires : goal.lock_office97-keys-requires
lock_office97-keys-requires c = (
  room_97 _ _ c.args.job.salt c.args.job.verifier _ _ _ _ c.args.job.choice c.requires c.in-Office97.is,
  c.requires.password_well_formed,
  c.requires.enough,
)

pub lock_crypto_api-keys-requires : goal.lock_crypto_api-keys-requires
lock_crypto_api-keys-requires c =
    let r = room_api _ _ c.args.job.salt c.args.job.verifier _ _ _ _ c.args.job.choice c.requires _ _ c.in-CryptoApi.is in
    (r.0, r.1, c.requires.password_well_formed, c.requires.enough)

pub returns-in_ok-lock-in-Xor : goal.returns-in_ok-lock-in-Xor
returns-in_ok-lock-in-Xor c =
    let salt_sixteen : length c.args.job.salt ≡ 16 = search rules in
    let verifier_sixteen : length c.args.job.verifier ≡ 16 = search rules in
    let some = ok_or_ok _ _ _ (sym c.ok_or.ensures.value ∙ c.in_ok-lock-in-Xor.was) in
    let password = made_of xor_lock_of (ansi c.args.job.password.now) _ (sym (some ∙ c.xor_lock.ensures)) in
    by_xor _ _ c.args.job.salt c.args.job.verifier _ _ _ _ c.args.job.choice c.requires
    c.in-Xor.is salt_sixteen verifier_sixteen password.0 password.1 _ (sym password.2) _ c.lock_xor.ensures _ c.report.ensures

pub returns-in-Office97 : goal.returns-in-Office97
returns-in-Office97 c =
    let salt_sixteen : length c.args.job.salt ≡ 16 = search rules in
    let verifier_sixteen : length c.args.job.verifier ≡ 16 = search rules in
    by_97 _ _ c.args.job.salt c.args.job.verifier _ _ _ _ c.args.job.choice c.requires
    c.in-Office97.is salt_sixteen verifier_sixteen _ _ _ c.lock_office97-keys.ensures _ c.report-in-Office97.ensures

pub returns-in-CryptoApi : goal.returns-in-CryptoApi
returns-in-CryptoApi c =
    let salt_sixteen : length c.args.job.salt ≡ 16 = search rules in
    let verifier_sixteen : length c.args.job.verifier ≡ 16 = search rules in
    by_api _ _ c.args.job.salt c.args.job.verifier _ _ _ _ c.args.job.choice c.requires _ _
    c.in-CryptoApi.is salt_sixteen verifier_sixteen _ _ _ c.lock_crypto_api-keys.ensures _ c.report-in-CryptoApi.ensures
