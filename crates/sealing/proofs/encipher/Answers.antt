-- `sealing::encipher` meets its contract: the schedule is that of the family, the key size, the salt and the password, and verifier, digest and stream go through it.
-- Assumes nothing.
use mathlib.Core.Path.{◌≡◌, ap, ◌∙◌}
use mathlib.Core.List.{◌++◌}
use Prim.Native.Nat.{ℕ, ◌+◌, ◌-◌, ◌^◌, ◌<◌}
use lib.ListN.{length, replicate}
use Rattle.std.proofs.Common.{arith}
use Rattle.std.proofs.lemmas.Grind.{common_steps}
use Rattle.block_keys.specs.declared.Schedule.{Schedule}
use Rattle.block_keys.specs.BlockKeys.{schedule_of, encrypted_verifier, encrypted_verifier_hash, started_blocks, digest_len}
use Rattle.block_keys.proofs.Schedules.{made, left_zero}
use Rattle.sealing.proofs.Locked.{by_schedule}
use Rattle.sealing.proofs.encipher.Goals as goal

-- the keys of all blocks, and one more
few : (n : ℕ) → n < 2 ^ 63 → 1 + started_blocks 1024 n < 2 ^ 64
unfolding started_blocks
few n h = omega arith

pub unwrap-schedule-requires : goal.unwrap-schedule-requires
unwrap-schedule-requires c =
    let there = made _ _ _ c.args.job.password.now c.args.scratch.now _ _ c.make_schedule.ensures c.requires.1 c.requires.0 in
    grind (arith, common_steps, there)

pub overflow_add-result : goal.overflow_add-result
overflow_add-result c = let told = c.apply_rc4-keys.ensures.counted c.requires.2 in
    let h = few (length c.args.job.plain.now) (omega (arith, c.well_formed)) in
    omega arith

pub returns : goal.returns
returns c =
    let there = made _ _ _ c.args.job.password.now c.args.scratch.now _ _ c.make_schedule.ensures c.requires.1 c.requires.0 in
    let e : c.unwrap-schedule.result ≡ schedule_of c.args.kind c.args.bits c.args.job.salt c.args.job.password.now = grind (arith, common_steps, there) in
    record {
      verifier_told = c.encrypt_verifier-encrypted.ensures.0 ∙ ap (λ (s : Schedule). encrypted_verifier s c.args.job.verifier) e;
      hash_told = c.encrypt_verifier-encrypted.ensures.1 ∙ ap (λ (s : Schedule). encrypted_verifier_hash s c.args.job.verifier ++ replicate (20 - digest_len s.kind) 0) e;
      keys = ap (λ (n : ℕ). 1 + n) (c.apply_rc4-keys.ensures.counted c.requires.2);
      scratch_left = left_zero _ _ _ c.args.job.password.now c.args.scratch.now _ _ c.make_schedule.ensures c.requires.1 c.requires.0;
      through = by_schedule c.args.job.plain.now c.args.output.now _ _ _ e (c.apply_rc4-keys.ensures.through.written c.requires.2);
    }
