-- `password_digest::hash_password` meets its contract: the three answers go by the scratch's length and by what `utf16le_len` answers. The length told at the
-- end is that of both parts, modulo 2^64, which tells the same number of bits.
-- Assumes nothing.
use Rattle.std.proofs.Common.{◌≡◌, ◌+◌, ◌%◌, ◌^◌, ◌++◌, length, ap, ◌∙◌, arith, length-append}
use Rattle.password_digest.specs.Digest.{spelt}
use Rattle.password_digest.proofs.Answers.{is_spelt, not_spelt, too_short, malformed, digested, told_low}
use Rattle.password_digest.proofs.hash_password.Goals as goal

pub returns-then-scratch-lt64 : goal.returns-then-scratch-lt64
returns-then-scratch-lt64 g c = too_short _ _ _ c.if-scratch-lt64.true

pub returns-in-Some : goal.returns-in-Some
returns-in-Some g c =
    let b = g.H.BlockHash in
    let password = c.args.password.now in
    let m = c.args.before.now ++ spelt password in
    let s = is_spelt password _ c.in-Some.ensures in
    let count = s.count in
    let long = length-append c.args.before.now (spelt password) in
    let told : (c.in-Some.len + length c.args.before.now) % 2 ^ 64 ≡ length m % 2 ^ 64 = omega arith in
    digested _ password c.args.scratch.now c.if-scratch-lt64.false c.hash_text-digest.result c.hash_text-digest.new.block c.clear.new.scratch s.formed
    (c.hash_text-digest.ensures (spelt password) s.bytes ∙ ap b.digest_of (told_low b.after_block b.size_bytes g.met.H.BlockHash.low_bits b.initial m _ told))
    c.hash_text-digest.auto.block c.clear.ensures

pub returns-in-None : goal.returns-in-None
returns-in-None g c = malformed _ _ _ c.if-scratch-lt64.false c.clear-in-None.new.scratch (not_spelt _ c.in-None.ensures) c.clear-in-None.ensures
