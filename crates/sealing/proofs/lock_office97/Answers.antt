-- `sealing::lock_office97` meets its contract: the stream goes through RC4, and over it comes the new FILEPASS.
-- Assumes nothing.
use mathlib.Core.Path.{◌≡◌, refl}
use lib.ListN.{length}
use Rattle.block_keys.specs.declared.Kind.TheVariants as kind
use Rattle.block_keys.specs.BlockKeys.{schedule_of}
use Rattle.excel97.specs.Steps.{rc4_at}
use borrow.Author.Rules.{rules}
use Rattle.sealing.specs.Filepass.{office97_body}
use Rattle.sealing.proofs.Rc4Fields.{length_97}
use Rattle.sealing.proofs.Locked.{locks, fields_97}
use Rattle.sealing.proofs.Puts.{put_same}
use Rattle.sealing.proofs.lock_office97.Goals as goal

pub returns : goal.returns
returns c =
    let salt_sixteen : length c.args.job.salt ≡ 16 =
    search rules in
    let s = schedule_of kind.Office97 40 c.args.job.salt c.args.job.password.now in
    record {
      locks = locks c.args.job.plain.now c.args.at 54 (rc4_at s) (office97_body s c.args.job.salt c.args.job.verifier) c.args.output.now _ _ _
          c.requires.0.inside (length_97 s c.args.job.salt c.args.job.verifier refl (salt_sixteen)) c.encipher-made.ensures.through c.put.ensures
          (put_same _ _ _ _ _ (fields_97 s c.args.job.salt c.args.job.verifier _ _ c.encipher-made.ensures.verifier_told c.encipher-made.ensures.hash_told refl)
          c.put_office97.ensures);
      counted = c.encipher-made.ensures.keys;
      scratch_left = c.encipher-made.ensures.scratch_left;
    }
