-- The fields of an RC4 body that sealing writes, as Open's definitions read them: questions 12 to 26 are passed, and the lock, the salt, the verifier and its digest are
-- those that were written.
-- Assumes nothing.
use Rattle.std.specs.Prelude.{None}
use mathlib.Core.Path.{◌≡◌, refl, sym, ap, subst, ◌∙◌}
use mathlib.Core.Bool.{true, false, ◌&&◌}
use mathlib.Core.List.{List, [], ◌∷◌, ◌++◌, append_assoc, append-nil}
use Prim.Native.Nat.{ℕ, ◌+◌, ◌-◌, ◌%◌, ◌≤◌, ◌<◌}
use native.Mathlib.Nat.{add-zero}
use native.Mathlib.Omega.{arith}
use borrow.Author.Tests.{le-leb, ne_eqb}
use lib.Dec.{eqb}
use lib.ListN.{length, get_or, length-append, length-replicate}
use Rattle.laws.specs.Choice.{pick, within}
use Rattle.laws.proofs.Choice.{taken, left, within_yes, or_right}
use Rattle.word.specs.Word.{le32}
use Rattle.word.proofs.Bytes.{word_of_le}
use Rattle.binary_office.specs.Walk.{zero_bytes}
use Rattle.file_params.specs.Questions.{Question, asked, only, version, office97, crypto_api, rc4, structure_of, major_of, is_office97, is_crypto_api, header_size, header_flags, alg_id, alg_id_hash, key_size, verifier_at, salt_size, verifier_hash_size}
use Rattle.file_params.proofs.Laws.{past, asked_on, only_yes, only_no}
use Rattle.block_keys.specs.declared.Kind.{Kind}
use Rattle.block_keys.specs.declared.Kind.TheVariants as kind
use Rattle.block_keys.specs.declared.Rc4Lock.{Rc4Lock}
use Rattle.block_keys.specs.declared.Schedule.{Schedule}
use Rattle.block_keys.specs.BlockKeys.{encrypted_verifier, encrypted_verifier_hash, digest_len}
use Rattle.block_keys.specs.Lock.{office97_lock, crypto_api_lock, lock_of, part, salt_of}
use Rattle.block_keys.proofs.Encrypted.{length_encrypted, length_encrypted_hash}
use Rattle.sealing.specs.Filepass.{two, four, office97_body, header_fields, header_len, crypto_api_body}
use Rattle.sealing.proofs.Reading.{le32_behind, part_at, byte_at, two_read}

-- what a structure tells, once its questions are passed
pub record Tells (structure : List ℕ) (k : Kind) (bits : ℕ) (salt verifier hash : List ℕ) : Type 0 where
  pub passed : None ≡ asked (rc4 structure)
  pub kind_is : (lock_of structure).kind ≡ k
  pub bits_are : (lock_of structure).key_bits ≡ bits
  pub unsealed : (lock_of structure).summary_sealed ≡ false
  pub salt_is : salt_of structure ≡ salt
  pub verifier_is : part structure (lock_of structure).verifier 16 ≡ verifier
  pub hash_is : (i : ℕ) → i < digest_len k → get_or (part structure (lock_of structure).hash 20) i 0 ≡ get_or hash i 0

-- 1.1
module _ (s : Schedule) (salt verifier : List ℕ) (ek : s.kind ≡ kind.Office97) (hs : length salt ≡ 16) where
  abbrev ev : List ℕ
  ev = encrypted_verifier s verifier

  abbrev eh : List ℕ
  eh = encrypted_verifier_hash s verifier

  abbrev front : List ℕ
  front = 1 ∷ 0 ∷ 1 ∷ 0 ∷ []

  hash_length : length eh ≡ 16
  hash_length = length_encrypted_hash s verifier ∙ ap digest_len ek

  structure_97 : structure_of (office97_body s salt verifier) ≡ front ++ (salt ++ (ev ++ eh))
  unfolding office97_body
  structure_97 = refl

  structure_length : length (front ++ (salt ++ (ev ++ eh))) ≡ 52
  structure_length =
      let a = length-append salt (ev ++ eh) in
      let b = length-append ev eh in
      let c = length_encrypted s verifier in
      let d = hash_length in
      omega arith

  pub length_97 : length (office97_body s salt verifier) ≡ 54
  unfolding office97_body
  length_97 = let l = structure_length in omega arith

  lock_97 : lock_of (front ++ (salt ++ (ev ++ eh))) ≡ office97_lock
  unfolding lock_of
  lock_97 = taken office97_lock (crypto_api_lock (front ++ (salt ++ (ev ++ eh)))) refl

  passed_97 : None ≡ asked (rc4 (front ++ (salt ++ (ev ++ eh))))
  unfolding rc4 version office97 asked only pick
  passed_97 =
      let st = front ++ (salt ++ (ev ++ eh)) in
      past _ (le-leb 4 (length st) (let l = structure_length in omega arith)) (past _ (le-leb 52 (length st) (let l = structure_length in omega arith)) refl)

  told_97 : Tells (front ++ (salt ++ (ev ++ eh))) kind.Office97 40 salt ev eh
  told_97 =
      let st = front ++ (salt ++ (ev ++ eh)) in
      let lv = length_encrypted s verifier in
      record {
        passed = passed_97;
        kind_is = ap (λ (l : Rc4Lock). l.kind) lock_97;
        bits_are = ap (λ (l : Rc4Lock). l.key_bits) lock_97;
        unsealed = ap (λ (l : Rc4Lock). l.summary_sealed) lock_97;
        salt_is = ap (λ (l : Rc4Lock). part st l.salt 16) lock_97 ∙ part_at front salt (ev ++ eh) 4 16 refl hs;
        verifier_is = ap (λ (l : Rc4Lock). part st l.verifier 16) lock_97 ∙ part_at (front ++ salt) ev eh 20 16 (let h = hs in omega arith) lv;
        hash_is = λ i h. ap (λ (l : Rc4Lock). get_or (part st l.hash 20) i 0) lock_97 ∙ ap (λ (l : List ℕ). get_or (part l 36 20) i 0) regrouped
            ∙ byte_at (front ++ (salt ++ ev)) eh [] 36 16 20 i (front_length lv) hash_length h (omega arith);
      }
    where
      regrouped : front ++ (salt ++ (ev ++ eh)) ≡ (front ++ (salt ++ ev)) ++ (eh ++ [])
      regrouped = ap (λ (l : List ℕ). front ++ l) (sym (append_assoc salt ev eh) ∙ ap (λ (l : List ℕ). (salt ++ ev) ++ l) (sym (append-nil eh)))

      front_length : length ev ≡ 16 → length (front ++ (salt ++ ev)) ≡ 36
      front_length lv = let l = length-append salt ev in omega arith

  pub tells_97 : Tells (structure_of (office97_body s salt verifier)) kind.Office97 40 salt ev eh
  tells_97 = subst (λ (st : List ℕ). Tells st kind.Office97 40 salt ev eh) (sym structure_97) told_97

-- CryptoAPI
module _ (s : Schedule) (major bits len : ℕ) (salt verifier : List ℕ) (ek : s.kind ≡ kind.CryptoApi) (hs : length salt ≡ 16) (low : 106 ≤ len) where
  abbrev cv : List ℕ
  cv = encrypted_verifier s verifier

  abbrev ch : List ℕ
  ch = encrypted_verifier_hash s verifier

  -- up to the end of the header, and from there on
  abbrev head : List ℕ
  head = two major ++ (two 2 ++ (four 0x0C ++ (four (header_len len) ++ (header_fields bits ++ zero_bytes (header_len len - 32)))))

  abbrev tail : List ℕ
  tail = four 16 ++ (salt ++ (cv ++ (four 20 ++ ch)))

  digest_length : length ch ≡ 20
  digest_length = length_encrypted_hash s verifier ∙ ap digest_len ek

  structure_api : structure_of (crypto_api_body s major bits len salt verifier) ≡ head ++ tail
  unfolding crypto_api_body
  structure_api = refl

  zeros_length : length (zero_bytes (header_len len - 32)) ≡ header_len len - 32
  zeros_length = length-replicate (header_len len - 32) 0

  head_length : length head ≡ 12 + header_len len
  head_length = let l = zeros_length in omega arith

  tail_length : length tail ≡ 60
  tail_length =
      let a = length-append salt (cv ++ (four 20 ++ ch)) in
      let b = length-append cv (four 20 ++ ch) in
      let c = length_encrypted s verifier in
      let d = digest_length in
      omega arith

  whole_length : length (head ++ tail) ≡ len - 2
  whole_length = let a = length-append head tail in let b = head_length in let c = tail_length in omega arith

  pub length_api : length (crypto_api_body s major bits len salt verifier) ≡ len
  unfolding crypto_api_body
  length_api = let l = whole_length in omega arith

  -- with a version, a key size and a length that sealing admits
  module _ (high : len ≤ 1098) (first : 2 ≤ major) (last : major ≤ 4) (least : 40 ≤ bits) (most : bits ≤ 128) (eighths : eqb (bits % 8) 0 ≡ true) where
    -- the fields of the header
    size_read : header_size (head ++ tail) ≡ header_len len
    unfolding le32
    size_read = word_of_le (header_len len) (omega arith)

    bits_read : key_size (head ++ tail) ≡ bits
    unfolding le32
    bits_read = word_of_le bits (omega arith)

    major_read : major_of (head ++ tail) ≡ major
    major_read = two_read major (omega arith)

    flags_read : header_flags (head ++ tail) ≡ 0x0C
    unfolding le32
    flags_read = refl

    cipher_read : alg_id (head ++ tail) ≡ 0x6801
    unfolding le32
    cipher_read = refl

    digest_read : alg_id_hash (head ++ tail) ≡ 0x8004
    unfolding le32
    digest_read = refl

    -- the fields of the verifier
    verifier_place : verifier_at (head ++ tail) ≡ 12 + header_len len
    verifier_place = ap (λ (n : ℕ). 12 + n) size_read

    salt_size_read : salt_size (head ++ tail) ≡ 16
    unfolding le32
    salt_size_read =
        ap (le32 (head ++ tail)) (verifier_place ∙ sym (add-zero (12 + header_len len))) ∙ le32_behind head tail (12 + header_len len) head_length 0

    -- the tail, cut behind a part
    cut : (x y : List ℕ) → x ++ y ≡ tail → head ++ tail ≡ (head ++ x) ++ y
    cut x y e = ap (λ (l : List ℕ). head ++ l) (sym e) ∙ sym (append_assoc head x y)

    -- where the tail's parts stand
    place : (k : ℕ) (x : List ℕ) → length x ≡ k → length (head ++ x) ≡ 12 + header_len len + k
    place k x e = length-append head x ∙ rw (head_length, e)

    with_salt : length (four 16 ++ salt) ≡ 20
    with_salt = let h = hs in omega arith

    with_verifier : length (four 16 ++ (salt ++ cv)) ≡ 36
    with_verifier = let h = hs in let a = length-append salt cv in let b = length_encrypted s verifier in omega arith

    with_size : length (four 16 ++ (salt ++ (cv ++ four 20))) ≡ 40
    with_size =
        let h = hs in
        let a = length-append salt (cv ++ four 20) in
        let b = length-append cv (four 20) in
        let c = length_encrypted s verifier in
        omega arith

    hash_size_read : verifier_hash_size (head ++ tail) ≡ 20
    unfolding le32
    hash_size_read =
        let x = four 16 ++ (salt ++ cv) in
        let y = four 20 ++ ch in
        let n = 12 + header_len len + 36 in
        ap (λ (k : ℕ). le32 (head ++ tail) (k + 36)) verifier_place
        ∙ ap (λ (l : List ℕ). le32 l n) (cut x y (ap (λ (l : List ℕ). four 16 ++ l) (append_assoc salt cv y)))
        ∙ ap (le32 ((head ++ x) ++ y)) (sym (add-zero n))
        ∙ le32_behind (head ++ x) y n (place 36 x with_verifier) 0

    -- the lock
    not_97 : is_office97 (head ++ tail) ≡ false
    not_97 = rw (major_read, ne_eqb major 1 (other major first))
      where
        other : (m : ℕ) → 2 ≤ m → m ≡ 1 → ⊥
        other m h e = omega arith

    is_api : is_crypto_api (head ++ tail) ≡ true
    is_api = rw (major_read, within_yes 2 4 major first last)

    not_none : eqb bits 0 ≡ false
    not_none = ne_eqb bits 0 (other bits least)
      where
        other : (b : ℕ) → 40 ≤ b → b ≡ 0 → ⊥
        other b h e = omega arith

    abbrev the_lock : Rc4Lock
    the_lock =
        let at = 12 + header_len len in
        record { kind = kind.CryptoApi; key_bits = bits; summary_sealed = false; salt = at + 4; verifier = at + 20; hash = at + 40 }

    lock_api : lock_of (head ++ tail) ≡ the_lock
    unfolding lock_of
    lock_api =
        left office97_lock (crypto_api_lock (head ++ tail)) not_97
        ∙ rw (bits_read, left 40 bits not_none, flags_read, verifier_place)

    passed_api : None ≡ asked (crypto_api (head ++ tail))
    unfolding asked crypto_api
    passed_api =
        let st = head ++ tail in
        let l = whole_length in
        past _ (le-leb 12 (length st) (omega arith))
        (past _ (rw size_read (within_yes 32 1024 (header_len len) (omega arith) (omega arith)))
        (past _ (rw verifier_place (le-leb (12 + header_len len) (length st) (omega arith)))
        (past _ (rw flags_read refl)
        (past _ (rw flags_read refl)
        (past _ (rw flags_read refl)
        (past _ (rw cipher_read refl)
        (past _ (rw digest_read refl)
        (past _ (rw bits_read (or_right (eqb bits 0) (within 40 128 bits && eqb (bits % 8) 0) (rw (within_yes 40 128 bits least most) eighths)))
        (past _ (rw verifier_place (le-leb (12 + header_len len + 60) (length st) (omega arith)))
        (past _ (rw salt_size_read refl)
        (past _ (rw hash_size_read refl) refl)))))))))))

    version_passed : None ≡ asked (version (head ++ tail))
    unfolding asked version
    version_passed =
        let st = head ++ tail in
        let l = whole_length in
        past _ (le-leb 4 (length st) (omega arith)) (past _ (or_right (is_office97 st) (is_crypto_api st) is_api) refl)

    all_passed : None ≡ asked (rc4 (head ++ tail))
    unfolding rc4
    all_passed =
        let st = head ++ tail in
        sym (asked_on (version st) (only (is_office97 st) (office97 st) ++ only (is_crypto_api st) (crypto_api st)) version_passed
        ∙ ap (λ (qs : List Question). asked (qs ++ only (is_crypto_api st) (crypto_api st))) (only_no (office97 st) not_97)
        ∙ ap asked (only_yes (crypto_api st) is_api)
        ∙ sym passed_api)

    told_api : Tells (head ++ tail) kind.CryptoApi bits salt cv ch
    told_api =
        let st = head ++ tail in
        let lv = length_encrypted s verifier in
        let at = 12 + header_len len in
        record {
          passed = all_passed;
          kind_is = ap (λ (l : Rc4Lock). l.kind) lock_api;
          bits_are = ap (λ (l : Rc4Lock). l.key_bits) lock_api;
          unsealed = ap (λ (l : Rc4Lock). l.summary_sealed) lock_api;
          salt_is = ap (λ (l : Rc4Lock). part st l.salt 16) lock_api
              ∙ ap (λ (l : List ℕ). part l (at + 4) 16) (cut (four 16) (salt ++ (cv ++ (four 20 ++ ch))) refl)
              ∙ part_at (head ++ four 16) salt (cv ++ (four 20 ++ ch)) (at + 4) 16 (place 4 (four 16) refl) hs;
          verifier_is = ap (λ (l : Rc4Lock). part st l.verifier 16) lock_api
              ∙ ap (λ (l : List ℕ). part l (at + 20) 16) (cut (four 16 ++ salt) (cv ++ (four 20 ++ ch)) refl)
              ∙ part_at (head ++ (four 16 ++ salt)) cv (four 20 ++ ch) (at + 20) 16 (place 20 (four 16 ++ salt) with_salt) lv;
          hash_is = λ i h. ap (λ (l : Rc4Lock). get_or (part st l.hash 20) i 0) lock_api
              ∙ ap (λ (l : List ℕ). get_or (part l (at + 40) 20) i 0) (cut (four 16 ++ (salt ++ (cv ++ four 20))) (ch ++ []) last_cut)
              ∙ byte_at (head ++ (four 16 ++ (salt ++ (cv ++ four 20)))) ch [] (at + 40) 20 20 i (place 40 (four 16 ++ (salt ++ (cv ++ four 20))) with_size) digest_length h h;
        }
      where
        last_cut : (four 16 ++ (salt ++ (cv ++ four 20))) ++ (ch ++ []) ≡ tail
        last_cut =
            ap (λ (l : List ℕ). four 16 ++ l)
            (append_assoc salt (cv ++ four 20) (ch ++ []) ∙ ap (λ (l : List ℕ). salt ++ l) (append_assoc cv (four 20) (ch ++ []) ∙ ap (λ (l : List ℕ). cv ++ (four 20 ++ l)) (append-nil ch)))

    pub tells_api : Tells (structure_of (crypto_api_body s major bits len salt verifier)) kind.CryptoApi bits salt cv ch
    tells_api = subst (λ (st : List ℕ). Tells st kind.CryptoApi bits salt cv ch) (sym structure_api) told_api
