-- `block_keys::verify_password` meets its contract: the second run of the keystream goes on where the first stopped.
-- Assumes nothing.
use mathlib.Core.Path.{◌≡◌, refl, sym, ap}
use native.Mathlib.Omega.{arith}
use lib.ListN.{length}
use Rattle.block_keys.specs.BlockKeys.{digest_len}
use borrow.Author.Rules.{rules}
use Rattle.block_keys.proofs.Answers.{digest_by_97, digest_by_api, checked}
use Rattle.block_keys.proofs.verify_password.Goals as goal

pub returns-in-Office97 : goal.returns-in-Office97
returns-in-Office97 c =
    let sixteen : length c.args.verifier ≡ 16 =
    search rules in
    let twenty : length c.args.hash ≡ 20 =
    search rules in
    checked c.args.schedule c.args.verifier (sixteen) _ _ _ _ c.keystream-first.ensures c.apply-then.ensures refl
    c.args.hash _ _ _ c.apply.ensures (twenty) refl 16 _ _
    (sym (ap digest_len c.in-Office97.is)) (omega arith) (digest_by_97 c.args.schedule.kind _ _ c.in-Office97.is c.digest-digest.ensures) c.same.ensures

pub returns-in-CryptoApi : goal.returns-in-CryptoApi
returns-in-CryptoApi c =
    let sixteen : length c.args.verifier ≡ 16 =
    search rules in
    let twenty : length c.args.hash ≡ 20 =
    search rules in
    checked c.args.schedule c.args.verifier (sixteen) _ _ _ _ c.keystream-first.ensures c.apply-then.ensures refl
    c.args.hash _ _ _ c.apply.ensures (twenty) refl 20 _ _
    (sym (ap digest_len c.in-CryptoApi.is)) (omega arith) (digest_by_api c.args.schedule.kind _ _ c.in-CryptoApi.is c.digest-digest-in-CryptoApi.ensures) c.same-in-CryptoApi.ensures
