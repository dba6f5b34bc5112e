-- The password check of a FILEPASS body is that of any longer one that begins with it, where questions 10 to 26 let the body through: every field that the check
-- reads lies within it.
-- Assumes nothing.
use Rattle.std.specs.Prelude.{Option, None, Some}
use mathlib.Core.Path.{◌≡◌, refl, sym, ap, ◌∙◌}
use mathlib.Core.Bool.{Bool, true, false}
use mathlib.Core.List.{List, []}
use Prim.Native.Nat.{ℕ, ◌+◌, ◌≤◌, ◌<◌}
use native.Mathlib.Omega.{arith}
use borrow.Author.Tests.{eq-eqb, ne_eqb, leb-true}
use lib.Bits.{bit_xor}
use lib.ListN.{length, get_or, drop, length-drop}
use lib.Seq.{get_or-drop, ext_get_or}
use Rattle.laws.specs.Offsets.{tabulate}
use Rattle.laws.proofs.Choice.{taken, left, same_or}
use Rattle.laws.proofs.Offsets.{length_tabulate, get_d_tabulate}
use Rattle.word.specs.Word.{le32}
use Rattle.sensitive.specs.Ansi.{ansi}
use Rattle.rc4.specs.Rc4.{keystream_byte}
use Rattle.file_params.specs.Questions.{asked, lock, rc4, office97, crypto_api, le16, type_of, structure_of, is_office97, verifier_at}
use Rattle.file_params.proofs.Laws.{first_yes}
use Rattle.block_keys.specs.declared.Schedule.{Schedule}
use Rattle.block_keys.specs.declared.Kind.TheVariants as kind
use Rattle.block_keys.specs.BlockKeys.{schedule_of, block_key, digest_by, digest_len, agree, under, verified}
use Rattle.block_keys.specs.Lock.{lock_of, office97_lock, crypto_api_lock, part}
use Rattle.survey.proofs.Locked.{two_there, six_there, at_most_one}
use Rattle.excel97.specs.Open.{xor_matches, rc4_matches, passes}
use Rattle.key_sizes.proofs.Passed.{behind, rc4_passed, version_there, office97_passed, cryptoapi_passed}

-- a list is the beginning of another
abbrev pub Begins : (b c : List ℕ) → Type 0
Begins b c = (i : ℕ) → i < length b → get_or b i 0 ≡ get_or c i 0

-- functions that agree up to n give one list
same_list : (f g : ℕ → ℕ) (n : ℕ) → ((i : ℕ) → i < n → f i ≡ g i) → tabulate f n ≡ tabulate g n
same_list f g n h =
    ext_get_or 0 (tabulate f n) (tabulate g n) (length_tabulate f n ∙ sym (length_tabulate g n))
    (λ i k.
    let l = length_tabulate f n in
    let m : i < n = omega arith in
    get_d_tabulate f n i 0 m ∙ h i m ∙ sym (get_d_tabulate g n i 0 m))

-- the fields of both
module _ (b c : List ℕ) (begins : Begins b c) where
  same_16 : (at : ℕ) → at + 2 ≤ length b → le16 b at ≡ le16 c at
  same_16 at h = rw (begins at (omega arith), begins (at + 1) (omega arith))

  same_32 : (at : ℕ) → at + 4 ≤ length b → le32 b at ≡ le32 c at
  unfolding le32
  same_32 at h = rw (begins at (omega arith), begins (at + 1) (omega arith), begins (at + 2) (omega arith), begins (at + 3) (omega arith))

  same_part : (at n : ℕ) → at + n ≤ length b → part b at n ≡ part c at n
  same_part at n h = same_list (λ (i : ℕ). get_or b (at + i) 0) (λ (i : ℕ). get_or c (at + i) 0) n (λ i k. begins (at + i) (omega arith))

  same_rest : Begins (drop 2 b) (drop 2 c)
  same_rest i h = let size = length-drop 2 b in get_or-drop 2 b i 0 ∙ begins (2 + i) (omega arith) ∙ sym (get_or-drop 2 c i 0)

-- the check reads as many bytes of the hash as the digest has
same_under : (key : List ℕ) (from n : ℕ) (g h : List ℕ) → ((i : ℕ) → i < n → get_or g i 0 ≡ get_or h i 0) → under key from g n ≡ under key from h n
same_under key from n g h e =
    same_list (λ (i : ℕ). bit_xor (get_or g i 0) (keystream_byte key (from + i))) (λ (i : ℕ). bit_xor (get_or h i 0) (keystream_byte key (from + i))) n
    (λ i k. rw (e i k))

same_verified : (s : Schedule) (verifier g h : List ℕ) → ((i : ℕ) → i < digest_len s.kind → get_or g i 0 ≡ get_or h i 0) → verified s verifier g ≡ verified s verifier h
unfolding verified
same_verified s verifier g h e =
    ap (λ (hash : List ℕ). agree (digest_by s.kind (under (block_key s 0) 0 verifier 16)) hash (digest_len s.kind))
    (same_under (block_key s 0) 16 (digest_len s.kind) g h e)

-- two structures of type 1, the first of which questions 12 to 26 let through
module _ (b c : List ℕ) (begins : Begins b c) (e : asked (rc4 b) ≡ None) where
  same_family : is_office97 b ≡ is_office97 c
  same_family =
      let l = version_there b e in
      rw (same_16 b c begins 0 (omega arith), same_16 b c begins 2 (omega arith))

  -- Office 97
  module _ (is : is_office97 b ≡ true) where
    fields_there : 52 ≤ length b
    unfolding office97
    fields_there = leb-true 52 (length b) (first_yes _ [] (office97_passed b e is))

    lock_97 : (x : List ℕ) → is_office97 x ≡ true → lock_of x ≡ office97_lock
    unfolding lock_of
    lock_97 x i = taken office97_lock (crypto_api_lock x) i

    hash_same : (i : ℕ) → i < 16 → get_or (part b 36 20) i 0 ≡ get_or (part c 36 20) i 0
    hash_same i h =
        let l = fields_there in
        get_d_tabulate (λ (i : ℕ). get_or b (36 + i) 0) 20 i 0 (omega arith) ∙ begins (36 + i) (omega arith)
        ∙ sym (get_d_tabulate (λ (i : ℕ). get_or c (36 + i) 0) 20 i 0 (omega arith))

    matches_97 : (password : List ℕ) → rc4_matches b password ≡ rc4_matches c password
    matches_97 password =
        let l = fields_there in
        rw (lock_97 b is, lock_97 c (sym same_family ∙ is), same_part b c begins 4 16 (omega arith), same_part b c begins 20 16 (omega arith))
        (same_verified (schedule_of kind.Office97 40 (part c 4 16) password) (part c 20 16) (part b 36 20) (part c 36 20) hash_same)

  -- CryptoAPI
  module _ (other : is_office97 b ≡ false) where
    -- question 24
    verifier_there : verifier_at b + 60 ≤ length b
    unfolding crypto_api
    verifier_there = leb-true (verifier_at b + 60) (length b) (first_yes _ (drop 10 (crypto_api b)) (behind 9 (crypto_api b) (cryptoapi_passed b e other)))

    lock_api : (x : List ℕ) → is_office97 x ≡ false → lock_of x ≡ crypto_api_lock x
    unfolding lock_of
    lock_api x i = left office97_lock (crypto_api_lock x) i

    same_place : verifier_at b ≡ verifier_at c
    same_place = let l = verifier_there in ap (λ (n : ℕ). 12 + n) (same_32 b c begins 8 (omega arith))

    same_lock_lem : lock_of b ≡ lock_of c
    same_lock_lem =
        let l = verifier_there in
        let fields : crypto_api_lock b ≡ crypto_api_lock c = rw (same_place, same_32 b c begins 12 (omega arith), same_32 b c begins 28 (omega arith)) in
        lock_api b other ∙ fields ∙ sym (lock_api c (sym same_family ∙ other))

    matches_api : (password : List ℕ) → rc4_matches b password ≡ rc4_matches c password
    matches_api password =
        let l = verifier_there in
        rw (same_lock_lem, lock_api c (sym same_family ∙ other), ← same_place)
        (rw (same_part b c begins (verifier_at b + 4) 16 (omega arith), same_part b c begins (verifier_at b + 20) 16 (omega arith), same_part b c begins (verifier_at b + 40) 20 (omega arith)))

  same_matches : (password : List ℕ) → rc4_matches b password ≡ rc4_matches c password
  same_matches password = go (is_office97 b) refl
    where
      go : (t : Bool) → is_office97 b ≡ t → rc4_matches b password ≡ rc4_matches c password
      go true i = matches_97 i password
      go false i = matches_api i password

-- two bodies, the first of which questions 10 to 26 let through
module _ (b c : List ℕ) (begins : Begins b c) (e : asked (lock b) ≡ None) (password : List ℕ) where
  same_type : type_of b ≡ type_of c
  same_type = let l = two_there b (sym e) in same_16 b c begins 0 (omega arith)

  check_xor : type_of b ≡ 0 → passes b password ≡ passes c password
  unfolding passes
  check_xor z =
      let l = six_there b (sym e) z in
      let fields : xor_matches b (ansi password) ≡ xor_matches c (ansi password) = by_password (ansi password) in
      taken (xor_matches b (ansi password)) (rc4_matches (structure_of b) password) (eq-eqb (type_of b) 0 z)
      ∙ fields
      ∙ sym (taken (xor_matches c (ansi password)) (rc4_matches (structure_of c) password) (eq-eqb (type_of c) 0 (sym same_type ∙ z)))
    where
      by_password : (p : Option (List ℕ)) → xor_matches b p ≡ xor_matches c p
      by_password None = refl
      by_password (Some p) = let l = six_there b (sym e) z in rw (same_16 b c begins 2 (omega arith), same_16 b c begins 4 (omega arith))

  check_rc4 : (type_of b ≡ 0 → ⊥) → passes b password ≡ passes c password
  unfolding passes
  check_rc4 z =
      let passed = rc4_passed b e (only_one (type_of b) z (at_most_one b (sym e))) in
      left (xor_matches b (ansi password)) (rc4_matches (structure_of b) password) (ne_eqb (type_of b) 0 z)
      ∙ same_matches (structure_of b) (structure_of c) (same_rest b c begins) passed password
      ∙ sym (left (xor_matches c (ansi password)) (rc4_matches (structure_of c) password) (ne_eqb (type_of c) 0 (λ g. z (same_type ∙ g))))
    where
      only_one : (t : ℕ) → (t ≡ 0 → ⊥) → t ≤ 1 → t ≡ 1
      only_one t f h = omega arith

  pub same_check : passes b password ≡ passes c password
  same_check = same_or (type_of b) 0 check_xor check_rc4
