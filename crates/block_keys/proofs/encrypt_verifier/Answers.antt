-- `block_keys::encrypt_verifier` meets its contract: the digest is enciphered from where the keystream stopped behind the verifier.
-- Assumes nothing.
use mathlib.Core.Path.{◌≡◌, refl, sym, ap}
use native.Mathlib.Omega.{arith}
use lib.ListN.{length}
use Rattle.block_keys.specs.BlockKeys.{digest_len}
use borrow.Author.Rules.{rules}
use Rattle.block_keys.proofs.Answers.{digest_by_97, digest_by_api, first_part, digest_enciphered}
use Rattle.block_keys.proofs.encrypt_verifier.Goals as goal

pub returns-in-Office97 : goal.returns-in-Office97
returns-in-Office97 c =
    let sixteen : length c.args.verifier ≡ 16 =
    search rules in (
      first_part c.args.schedule c.args.verifier (sixteen) _ _ _ _ c.keystream-first.ensures c.apply-then.ensures refl,
      digest_enciphered c.args.schedule c.args.verifier (sixteen) _ _ _ _ c.keystream-first.ensures c.apply-then.ensures refl 16 _ _ _ _
          c.apply.ensures (sym (ap digest_len c.in-Office97.is)) (search rules) (digest_by_97 c.args.schedule.kind _ _ c.in-Office97.is c.digest-md5_digest.ensures)
          (omega arith) refl,
    )

pub returns-in-CryptoApi : goal.returns-in-CryptoApi
returns-in-CryptoApi c =
    let sixteen : length c.args.verifier ≡ 16 =
    search rules in (
      first_part c.args.schedule c.args.verifier (sixteen) _ _ _ _ c.keystream-first.ensures c.apply-then.ensures refl,
      digest_enciphered c.args.schedule c.args.verifier (sixteen) _ _ _ _ c.keystream-first.ensures c.apply-then.ensures refl 20 _ _ _ _
          c.apply-in-CryptoApi.ensures (sym (ap digest_len c.in-CryptoApi.is)) (search rules) (digest_by_api c.args.schedule.kind _ _ c.in-CryptoApi.is c.digest-sha1_digest.ensures)
          (omega arith) refl,
    )
