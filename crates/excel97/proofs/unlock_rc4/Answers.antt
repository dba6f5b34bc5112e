-- `excel97::unlock_rc4` meets its contract: the schedule, the check, the deciphered stream, and the blanked FILEPASS.
-- Assumes nothing.
use mathlib.Core.Path.{◌≡◌, sym, ap, ◌∙◌}
use Prim.Native.Nat.{ℕ, ◌+◌, ◌-◌, ◌^◌, ◌<◌}
use lib.Bits.{bit_xor}
use lib.ListN.{length, take, drop}
use Rattle.std.proofs.lemmas.Option.{none-some, same_Some}
use Rattle.std.proofs.Common.{arith}
use Rattle.laws.proofs.Results.{ok_or_ok, ok_or_err}
use Rattle.binary_office.specs.declared.BiffRecord.{BiffRecord}
use Rattle.file_params.specs.Questions.{filepass_body}
use Rattle.block_keys.specs.BlockKeys.{schedule_of, block_key, keystream_at, started_blocks}
use Rattle.block_keys.specs.Lock.{part}
use Rattle.block_keys.proofs.Schedules.{made, left_zero}
use Rattle.excel97.proofs.Unlocked.{structure_slice, plain_left, unlocks_no, unlocks_yes, rc4_told, rc4_plain, keys_in_all}
use Rattle.excel97.proofs.unlock_rc4.Goals as goal

-- the keys of all blocks, and one more
few : (n : ℕ) → n < 2 ^ 63 → 1 + started_blocks 1024 n < 2 ^ 64
unfolding started_blocks
few n h = omega arith

pub returns-in_err-schedule : goal.returns-in_err-schedule
returns-in_err-schedule c =
    let none = ok_or_err _ _ _ (sym c.ok_or.ensures.value ∙ c.in_err-schedule.was) in
    absurd (none-some _ (none ∙ made _ _ _ c.args.password.now c.args.scratch.now _ _ c.schedule_of.ensures c.requires.4.wiped c.requires.4.formed))

pub returns-then-not-verify : goal.returns-then-not-verify
returns-then-not-verify c =
    let s = c.args.stream.now in
    let p = c.args.password.now in
    let lock = c.args.lock in
    let body = c.body_of.result.now in
    let structure = take (length body - 2) (drop 2 body) in
    let structure_is = structure_slice s body c.body_of.ensures in
    let some = ok_or_ok _ _ _ (sym c.ok_or.ensures.value ∙ c.in_ok-schedule.was) in
    let schedule_is : c.in_ok-schedule.schedule ≡ schedule_of lock.kind lock.key_bits (part structure lock.salt 16) p =
    same_Some _ _ (some ∙ made _ _ _ p c.args.scratch.now _ _ c.schedule_of.ensures c.requires.4.wiped c.requires.4.formed) in (
      unlocks_no s p c.args.output.now _
          (rc4_told (filepass_body s) p structure lock _ c.requires.1 structure_is c.requires.3 schedule_is _ c.verify.ensures ∙ c.if-not-verify.true),
      left_zero _ _ _ p c.args.scratch.now _ _ c.schedule_of.ensures c.requires.4.wiped c.requires.4.formed,
    )

pub overflow_add-result : goal.overflow_add-result
overflow_add-result c = let told = c.apply_rc4-keys.ensures.counted c.requires.0.room in
    let h = few (length c.args.stream.now) (omega (arith, c.well_formed)) in
    omega arith

pub returns : goal.returns
returns c =
    let s = c.args.stream.now in
    let p = c.args.password.now in
    let lock = c.args.lock in
    let body = c.body_of.result.now in
    let structure = take (length body - 2) (drop 2 body) in
    let structure_is = structure_slice s body c.body_of.ensures in
    let some = ok_or_ok _ _ _ (sym c.ok_or.ensures.value ∙ c.in_ok-schedule.was) in
    let schedule_is : c.in_ok-schedule.schedule ≡ schedule_of lock.kind lock.key_bits (part structure lock.salt 16) p =
    same_Some _ _ (some ∙ made _ _ _ p c.args.scratch.now _ _ c.schedule_of.ensures c.requires.4.wiped c.requires.4.formed) in
    let keys = ap (λ (n : ℕ). 1 + n) (c.apply_rc4-keys.ensures.counted c.requires.0.room) ∙ keys_in_all (filepass_body s) p c.requires.1 (length s) in (
      rw keys
          (unlocks_yes s p c.args.output.now _ _
          (rc4_told (filepass_body s) p structure lock _ c.requires.1 structure_is c.requires.3 schedule_is _ c.verify.ensures ∙ c.if-not-verify.false)
          (plain_left s c.args.filepass c.requires.0.found p c.args.output.now _ _
          (λ (r : BiffRecord) (o x : ℕ). bit_xor x (keystream_at 1024 (block_key c.in_ok-schedule.schedule) o)) c.requires.0.inside c.requires.0.room
          (c.apply_rc4-keys.ensures.through.written c.requires.0.room)
          (rc4_plain (filepass_body s) p structure lock _ c.requires.1 structure_is c.requires.3 schedule_is) c.blank.ensures)),
      left_zero _ _ _ p c.args.scratch.now _ _ c.schedule_of.ensures c.requires.4.wiped c.requires.4.formed,
    )
