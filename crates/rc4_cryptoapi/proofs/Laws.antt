-- How long a block's key is: 6 to 16 bytes of the digest, or the 16 that stand for forty bits.
-- Assumes nothing.
use mathlib.Core.Path.{◌≡◌, refl, ap, ◌∙◌}
use mathlib.Core.Bool.{Bool, true, false}
use mathlib.Core.List.{List, ◌++◌}
use Prim.Native.Nat.{ℕ, ◌+◌, ◌/◌, ◌≤◌}
use native.Mathlib.Omega.{arith}
use lib.ListN.{length, take, replicate, length-append}
use lib.Seq.{length-take-le}
use Rattle.laws.specs.Choice.{within}
use Rattle.laws.proofs.Choice.{taken, left, within_from, within_to}
use Rattle.word.specs.Word.{le_bytes}
use Rattle.sha_1.specs.Sha1.{sha1, output}
use Rattle.rc4_cryptoapi.specs.Keys.{hfinal, block_key}

pub length_sha1 : (m : List ℕ) → length (sha1 m) ≡ 20
unfolding sha1 output
length_sha1 m = refl

-- the two kinds of key
module _ (h0 : List ℕ) (bits block : ℕ) where
  pub key_long : within 48 128 bits ≡ true → block_key h0 bits block ≡ take (bits / 8) (hfinal h0 block)
  unfolding block_key
  key_long e = taken _ _ e

  pub key_forty : within 48 128 bits ≡ false → block_key h0 bits block ≡ take 5 (hfinal h0 block) ++ replicate 11 0
  unfolding block_key
  key_forty e = left _ _ e

  pub length_long : within 48 128 bits ≡ true → length (take (bits / 8) (hfinal h0 block)) ≡ bits / 8
  length_long e =
      let h = within_to 48 128 bits e in
      let l = length_sha1 (h0 ++ le_bytes block) in
      length-take-le (bits / 8) (hfinal h0 block) (omega arith)

  pub length_forty : length (take 5 (hfinal h0 block) ++ replicate 11 0) ≡ 16
  length_forty =
      let l = length_sha1 (h0 ++ le_bytes block) in
      length-append (take 5 (hfinal h0 block)) (replicate 11 0) ∙ ap (λ (n : ℕ). n + 11) (length-take-le 5 (hfinal h0 block) (omega arith))

  pub block_key_length : (5 ≤ length (block_key h0 bits block)) × (length (block_key h0 bits block) ≤ 16)
  block_key_length = go (within 48 128 bits) refl
    where
      go : (t : Bool) → within 48 128 bits ≡ t → (5 ≤ length (block_key h0 bits block)) × (length (block_key h0 bits block) ≤ 16)
      go true e =
          let h = within_from 48 128 bits e in
          let k = within_to 48 128 bits e in
          rw (key_long e, length_long e) (omega arith, omega arith)
      go false e = rw (key_forty e, length_forty) (omega arith, omega arith)
