-- `sealing::lock_crypto_api` meets its contract: the stream goes through RC4, and over it comes the new FILEPASS.
-- Assumes nothing.
use mathlib.Core.Path.{◌≡◌, refl}
use lib.ListN.{length}
use Rattle.block_keys.specs.declared.Kind.TheVariants as kind
use Rattle.block_keys.specs.BlockKeys.{schedule_of}
use Rattle.excel97.specs.Steps.{rc4_at}
use borrow.Author.Rules.{rules}
use Rattle.sealing.specs.Filepass.{crypto_api_body}
use Rattle.sealing.proofs.Rc4Fields.{length_api}
use Rattle.sealing.proofs.Locked.{locks, fields_api}
use Rattle.sealing.proofs.Puts.{put_same}
use Rattle.sealing.proofs.lock_crypto_api.Goals as goal

pub returns : goal.returns
returns c =
    let salt_sixteen : length c.args.job.salt ≡ 16 =
    search rules in
    let s = schedule_of kind.CryptoApi c.args.bits c.args.job.salt c.args.job.password.now in
    record {
      locks = locks c.args.job.plain.now c.args.zero.at c.args.zero.len (rc4_at s) (crypto_api_body s c.args.major c.args.bits c.args.zero.len c.args.job.salt c.args.job.verifier) c.args.output.now _ _ _
          c.requires.0.inside (length_api s c.args.major c.args.bits c.args.zero.len c.args.job.salt c.args.job.verifier refl (salt_sixteen) c.requires.1) c.encipher-made.ensures.through c.put.ensures
          (put_same _ _ _ _ _ (fields_api s c.args.job.salt c.args.job.verifier _ _ c.encipher-made.ensures.verifier_told c.encipher-made.ensures.hash_told refl c.args.major c.args.bits c.args.zero.len c.requires.1)
          c.put_crypto_api.ensures);
      counted = c.encipher-made.ensures.keys;
      scratch_left = c.encipher-made.ensures.scratch_left;
    }
