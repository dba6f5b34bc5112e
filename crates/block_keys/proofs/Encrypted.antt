-- What sealing writes of a verifier passes the check: each byte is put through the same keystream byte twice.
-- Assumes nothing.
use mathlib.Core.Path.{◌≡◌, refl, sym, ap, ◌∙◌}
use mathlib.Core.Bool.{true}
use mathlib.Core.List.{List}
use Prim.Native.Nat.{ℕ, zero, suc, ◌+◌, ◌<◌}
use lib.Bits.{bit_xor}
use lib.ListN.{length, get_or}
use lib.Seq.{ext_get_or}
use borrow.Author.Tests.{eq-eqb}
use Rattle.laws.proofs.Offsets.{length_tabulate, get_d_tabulate}
use Rattle.laws.proofs.Xor.{xor_twice}
use Rattle.rc4.specs.Rc4.{keystream_byte}
use Rattle.block_keys.specs.declared.Schedule.{Schedule}
use Rattle.block_keys.specs.BlockKeys.{block_key, agree, under, digest_by, digest_len, verified, encrypted_verifier, encrypted_verifier_hash}
use Rattle.block_keys.proofs.Answers.{agree_same}

agree_self : (a : List ℕ) (n : ℕ) → agree a a n ≡ true
unfolding agree
agree_self a zero = refl
agree_self a (suc n) = rw (agree_self a n, eq-eqb (get_or a n 0) (get_or a n 0) refl)

-- bytes under a keystream, put under it again
module _ (key : List ℕ) (from n : ℕ) where
  byte_under : (s : List ℕ) (i : ℕ) → i < n → get_or (under key from s n) i 0 ≡ bit_xor (get_or s i 0) (keystream_byte key (from + i))
  byte_under s i h = get_d_tabulate (λ (j : ℕ). bit_xor (get_or s j 0) (keystream_byte key (from + j))) n i 0 h

  length_under : (s : List ℕ) → length (under key from s n) ≡ n
  length_under s = length_tabulate (λ (j : ℕ). bit_xor (get_or s j 0) (keystream_byte key (from + j))) n

  byte_twice : (s t : List ℕ) (i : ℕ) → i < n → get_or t i 0 ≡ get_or (under key from s n) i 0 → get_or (under key from t n) i 0 ≡ get_or s i 0
  byte_twice s t i h e =
      byte_under t i h ∙ ap (λ (x : ℕ). bit_xor x (keystream_byte key (from + i))) (e ∙ byte_under s i h) ∙ xor_twice (get_or s i 0) (keystream_byte key (from + i))

  under_twice : (s : List ℕ) → length s ≡ n → under key from (under key from s n) n ≡ s
  under_twice s l =
      let t : List ℕ = under key from s n in
      ext_get_or 0 (under key from t n) s (length_under t ∙ sym l) (λ i h. byte_twice s t i (rw (length_under t) at h) refl)

module _ (s : Schedule) where
  pub length_encrypted : (verifier : List ℕ) → length (encrypted_verifier s verifier) ≡ 16
  length_encrypted verifier = length_under (block_key s 0) 0 16 verifier

  pub length_encrypted_hash : (verifier : List ℕ) → length (encrypted_verifier_hash s verifier) ≡ digest_len s.kind
  length_encrypted_hash verifier = length_under (block_key s 0) 16 (digest_len s.kind) (digest_by s.kind verifier)

  pub verified_encrypted : (verifier hash : List ℕ) → length verifier ≡ 16
      → ((i : ℕ) → i < digest_len s.kind → get_or hash i 0 ≡ get_or (encrypted_verifier_hash s verifier) i 0)
      → verified s (encrypted_verifier s verifier) hash ≡ true
  unfolding verified
  verified_encrypted verifier hash l h =
      let n : ℕ = digest_len s.kind in
      let key : List ℕ = block_key s 0 in
      let digest : List ℕ = digest_by s.kind verifier in
      rw (under_twice key 0 16 verifier l)
      (agree_same digest (under key 16 hash n) digest n (λ i k. byte_twice key 16 n digest hash i k (h i k)) ∙ agree_self digest n)
