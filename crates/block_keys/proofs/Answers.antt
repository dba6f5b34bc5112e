-- What the functions over a schedule answer: the digest of a family, the key of a block and its keystream, the check of a verifier.
-- Assumes nothing.
use Rattle.std.specs.Prelude.{Some}
use mathlib.Core.Path.{◌≡◌, refl, sym, ap, ◌∙◌}
use mathlib.Core.Bool.{Bool, true, ◌&&◌}
use mathlib.Core.List.{List, [], ◌∷◌, ◌++◌, append-nil}
use Prim.Native.Nat.{ℕ, zero, suc, ◌+◌, ◌-◌, ◌≤◌, ◌<◌, min}
use native.Mathlib.Nat.{le_refl}
use native.Mathlib.Omega.{arith}
use lib.Bits.{bit_xor}
use lib.ListN.{length, get_or, take, drop, replicate, length-append}
use lib.Seq.{take-append-le, take_all}
use Rattle.laws.specs.Choice.{pick, within}
use Rattle.laws.specs.Offsets.{tabulate}
use Rattle.laws.proofs.Choice.{taken, within_yes}
use Rattle.laws.proofs.Offsets.{get_d_tabulate}
use Rattle.sensitive.specs.declared.DerivedKey.{DerivedKey}
use Rattle.sensitive.specs.Derived.{derived}
use Rattle.sha_1.specs.Sha1.{sha1}
use Rattle.md_5.specs.Md5.{md5}
use Rattle.rc4.specs.declared.Keystream.{Keystream}
use Rattle.rc4.specs.Rc4.{keyed, made, after, byte_from, keystream_byte, Applies, enciphered, enciphered_halves}
use Rattle.rc4.proofs.Table.{made_keyed, after_none, byte_resumed}
use Rattle.rc4_office97.specs.Keys as office97
use Rattle.rc4_office97.proofs.Laws as laws97
use Rattle.rc4_cryptoapi.specs.Keys as cryptoapi
use Rattle.rc4_cryptoapi.proofs.Laws as lawsApi
use Rattle.block_keys.specs.declared.Kind.{Kind}
use Rattle.block_keys.specs.declared.Kind.TheVariants.{Office97, CryptoApi}
use Rattle.block_keys.specs.declared.Schedule.{Schedule}
use Rattle.block_keys.specs.BlockKeys.{key_by, block_key, agree, under, digest_by, digest_len, verified, encrypted_verifier_hash}

-- the key of a block
module _ (s : Schedule) (block : ℕ) where
  pub key_97 : s.kind ≡ Office97 → block_key s block ≡ office97.block_key (take 5 s.digest) block
  unfolding block_key
  key_97 e = ap (λ (k : Kind). key_by k s.key_bits s.digest block) e

  pub key_api : s.kind ≡ CryptoApi → block_key s block ≡ cryptoapi.block_key s.digest s.key_bits block
  unfolding block_key
  key_api e = ap (λ (k : Kind). key_by k s.key_bits s.digest block) e

  pub key_length : (5 ≤ length (block_key s block)) × (length (block_key s block) ≤ 16)
  key_length = by_kind s.kind refl
    where
      by_kind : (k : Kind) → s.kind ≡ k → (5 ≤ length (block_key s block)) × (length (block_key s block) ≤ 16)
      by_kind Office97 e = rw (key_97 e) (laws97.block_key_length (take 5 s.digest) block)
      by_kind CryptoApi e = rw (key_api e) (lawsApi.block_key_length s.digest s.key_bits block)

-- a key and the zeros behind it
module _ (key : List ℕ) where
  pub key_bytes : take (derived key).len (derived key).bytes ≡ key
  key_bytes = take-append-le (length key) key (replicate (16 - length key) 0) (le_refl (length key)) ∙ take_all (length key) key (le_refl (length key))

  pub key_room : (derived key).len ≤ length (derived key).bytes
  key_room = let l = length-append key (replicate (16 - length key) 0) in omega arith

-- the key of a block as a function hands it over
module _ (s : Schedule) (block : ℕ) where
  pub slice_is : (d : DerivedKey) → d ≡ derived (block_key s block) → take d.len d.bytes ≡ block_key s block
  slice_is d e = ap (λ (k : DerivedKey). take k.len k.bytes) e ∙ key_bytes (block_key s block)

  module _ (key : List ℕ) (e : key ≡ block_key s block) where
    key_fits : within 5 16 (length key) ≡ true
    key_fits = rw e (within_yes 5 16 (length (block_key s block)) (key_length s block).0 (key_length s block).1)

    pub stream_made : made key ≡ Some (keyed (block_key s block))
    stream_made = ap made e ∙ sym (made_keyed (block_key s block) (key_length s block).0 (key_length s block).1)

    -- so what is there is enciphered under it
    pub part_under : (ok : Bool) (m d d' : List ℕ) → ok ≡ within 5 16 (length key) → d' ≡ pick ok (enciphered (keyed key) m d) d
        → d' ≡ enciphered (keyed (block_key s block)) m d
    part_under ok m d d' told g = g ∙ taken _ _ (told ∙ key_fits) ∙ ap (λ (k : List ℕ). enciphered (keyed k) m d) e

-- two keys fit, so the halves are enciphered under them
pub halves_under : (s : Schedule) (block other : ℕ) (key key₁ : List ℕ) → key ≡ block_key s block → key₁ ≡ block_key s other
    → (ok : Bool) (m d d' : List ℕ) → ok ≡ within 5 16 (length key) && within 5 16 (length key₁)
    → d' ≡ pick ok (enciphered_halves (keyed key) (keyed key₁) m d) d
    → d' ≡ enciphered_halves (keyed (block_key s block)) (keyed (block_key s other)) m d
halves_under s block other key key₁ e f ok m d d' told g =
    let fitting : ok ≡ true = told ∙ rw (key_fits s block key e, key_fits s other key₁ f) refl in
    g ∙ taken _ _ fitting
    ∙ ap (λ (k : List ℕ). enciphered_halves (keyed k) (keyed key₁) m d) e
    ∙ ap (λ (k : List ℕ). enciphered_halves (keyed (block_key s block)) (keyed k) m d) f

-- lists given by offsets that agree
tabulate_same : (f g : ℕ → ℕ) (n : ℕ) → ((i : ℕ) → f i ≡ g i) → tabulate f n ≡ tabulate g n
unfolding tabulate
tabulate_same f g zero h = refl
tabulate_same f g (suc n) h = rw (tabulate_same f g n h, h n)

pub agree_same : (a b c : List ℕ) (n : ℕ) → ((i : ℕ) → i < n → get_or b i 0 ≡ get_or c i 0) → agree a b n ≡ agree a c n
unfolding agree
agree_same a b c zero h = refl
agree_same a b c (suc n) h = rw (agree_same a b c n (λ i k. h i (omega arith)), h n (omega arith))

-- the digest of a family
module _ (k : Kind) (plain digest : List ℕ) where
  pub digest_by_97 : k ≡ Office97 → digest ≡ md5 plain → digest ≡ digest_by k plain
  digest_by_97 e g = rw e g

  pub digest_by_api : k ≡ CryptoApi → digest ≡ sha1 plain → digest ≡ digest_by k plain
  digest_by_api e g = rw e g

-- a keystream from a position on, over a list into one that has room for it
module _ (key : List ℕ) (from n : ℕ) (m d d' : List ℕ) (k k' : Keystream) (e : k ≡ after (keyed key) from) (h : length m ≡ n) (a : Applies k m d k' d') where
  ran : n ≤ length d → d' ≡ under key from m n ++ drop n d
  ran g =
      let l : min (length m) (length d) ≡ n = rw h (least (length d) g) in
      a.bytes
      ∙ rw l
      (ap (λ (l : List ℕ). l ++ drop n d)
      (tabulate_same (λ (i : ℕ). bit_xor (get_or m i 0) (byte_from k i)) (λ (i : ℕ). bit_xor (get_or m i 0) (keystream_byte key (from + i))) n
      (λ i. ap (bit_xor (get_or m i 0)) (ap (λ (q : Keystream). byte_from q i) e ∙ byte_resumed (keyed key) from i))))
    where
      least : (j : ℕ) → n ≤ j → min n j ≡ n
      least j g = omega arith

  ran_whole : length d ≡ n → d' ≡ under key from m n
  ran_whole g = ran (omega arith) ∙ rw (← g) (ap (λ (l : List ℕ). under key from m (length d) ++ l) (none d) ∙ append-nil (under key from m (length d)))
    where
      none : (xs : List ℕ) → drop (length xs) xs ≡ []
      none [] = refl
      none (x ∷ xs) = none xs

-- block 0's keystream over a verifier, and then on from there
module _ (s : Schedule) (verifier : List ℕ) (hv : length verifier ≡ 16) (k k' : Keystream) (zeros first : List ℕ) (e : k ≡ keyed (block_key s 0))
    (a : Applies k verifier zeros k' first) (z : length zeros ≡ 16) where
  abbrev key : List ℕ
  key = block_key s 0

  pub first_part : first ≡ under key 0 verifier 16
  first_part = ran_whole key 0 16 verifier zeros first k k' (e ∙ after_none (keyed key)) hv a z

  then : k' ≡ after (keyed key) 16
  then = a.keystream ∙ rw (hv, z, e)

  pub checked : (hash zeros' plain : List ℕ) (k'' : Keystream) → Applies k' hash zeros' k'' plain → length hash ≡ 20 → length zeros' ≡ 20
      → (n : ℕ) (digest : List ℕ) (r : Bool) → n ≡ digest_len s.kind → n ≤ 20 → digest ≡ digest_by s.kind first → r ≡ agree digest plain n
      → r ≡ verified s verifier hash
  unfolding verified
  checked hash zeros' plain k'' b hh z' n digest r en le ed er =
      er
      ∙ agree_same digest plain (under key 16 hash n) n (λ i h. ap (λ (l : List ℕ). get_or l i 0) second_part ∙ at 20 i (omega arith) ∙ sym (at n i h))
      ∙ rw (ed, first_part, en)
    where
      second_part : plain ≡ under key 16 hash 20
      second_part = ran_whole key 16 20 hash zeros' plain k' k'' then hh b z'

      at : (m i : ℕ) → i < m → get_or (under key 16 hash m) i 0 ≡ bit_xor (get_or hash i 0) (keystream_byte key (16 + i))
      at m i h = get_d_tabulate (λ (j : ℕ). bit_xor (get_or hash j 0) (keystream_byte key (16 + j))) m i 0 h

  pub digest_enciphered : (n : ℕ) (digest zeros' hash : List ℕ) (k'' : Keystream) → Applies k' digest zeros' k'' hash → n ≡ digest_len s.kind → length digest ≡ n
      → digest ≡ digest_by s.kind verifier → n ≤ length zeros' → drop n zeros' ≡ replicate (20 - n) 0
      → hash ≡ encrypted_verifier_hash s verifier ++ replicate (20 - digest_len s.kind) 0
  digest_enciphered n digest zeros' hash k'' b en l ed room rest = ran key 16 n digest zeros' hash k' k'' then l b room ∙ rw (rest, ed, en)
