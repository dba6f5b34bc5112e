-- The key size that Look reports is the one that Open reports. Open's questions 10 to 23 fix the type, the version and the key size of the FILEPASS body; Look reads the
-- same body (`looked`), cut at the last byte that it reads; and a field that lies before the cut is the same in both.
-- Assumes nothing.
use Rattle.std.specs.Prelude.{None, Some}
use mathlib.Core.Path.{◌≡◌, refl, sym, ap, ◌∙◌}
use mathlib.Core.Bool.{Bool, true, false, ◌&&◌, ◌||◌}
use mathlib.Core.List.{List}
use Prim.Native.Nat.{ℕ, ◌+◌, ◌-◌, ◌%◌, ◌≤◌, ◌<◌}
use native.Mathlib.Omega.{arith}
use borrow.Author.Tests.{eq-eqb, ne_eqb, eqb-true, leb-true}
use lib.Dec.{eqb}
use lib.ListN.{length, get_or, take, drop, length-drop}
use lib.Seq.{get_or-drop}
use Rattle.laws.specs.Choice.{pick, within}
use Rattle.laws.proofs.Choice.{taken, left, either, same_or, and_left, and_right, within_from, within_to}
use Rattle.word.specs.Word.{le32}
use Rattle.binary_office.specs.declared.Facts.{Facts}
use Rattle.binary_office.specs.declared.Finding.TheVariants.{Filepass, Unreadable}
use Rattle.binary_office.specs.declared.Verdict.TheVariants.{Unknown}
use Rattle.binary_office.specs.Fields.{le32_at}
use Rattle.binary_office.specs.declared.BiffRecord.{BiffRecord}
use Rattle.binary_office.specs.Walk.{walk}
use Rattle.binary_office.specs.Look.{bits_of, bits_in, facts_of, look}
use Rattle.binary_office.specs.KeySizes.{reported, Versioned}
use Rattle.binary_office.proofs.Headers.{le16_value, le32_value, le16_first, le32_first, le32_beyond}
use Rattle.binary_office.proofs.Locks.{bits_zero, bits_stated, part_cut, look_found}
use Rattle.binary_office.proofs.KeySizes.{facts_are, no_size}
use Rattle.binary_office.proofs.Bodies.{impossible}
use Rattle.file_params.specs.Questions.{asked, book, lock, crypto_api, of_stream, filepass, body_of, filepass_body, type_of, structure_of, major_of, minor_of, is_office97, header_size, verifier_at, key_size}
use Rattle.file_params.proofs.Laws.{none_of_both, first_yes}
use Rattle.rc4_cryptoapi.specs.Parse.{key_bits}
use Rattle.block_keys.specs.declared.Rc4Lock.{Rc4Lock}
use Rattle.block_keys.specs.Lock.{lock_of, office97_lock, crypto_api_lock}
use Rattle.excel97.specs.declared.Lock.TheVariants.{Xor, Office97, CryptoApi}
use Rattle.excel97.specs.declared.Report.{Report}
use Rattle.excel97.specs.Open.{by_kind, report}
use Rattle.survey.specs.Survey.{book_of}
use Rattle.survey.proofs.Locked.{at_most_one}
use Rattle.excel97.proofs.Settled.{xor_reported, rc4_reported, has_opened}
use Rattle.key_sizes.specs.KeySizes.{OfAnyRun}
use Rattle.key_sizes.proofs.Passed.{second_true, behind, bof, in_order_lem, first_found, rc4_passed, is_cryptoapi, cryptoapi_passed}
use Rattle.key_sizes.proofs.Scanned.{seen_there, seen_not, looked}

-- the FILEPASS body of a CryptoAPI book, past question 23: what Look reads of it
pub record CryptoApiBody (body : List ℕ) : Type 0 where
  pub versioned : Versioned body (major_of (structure_of body))
  pub stated : le32_at body 30 ≡ Some (key_size (structure_of body))
  pub size : bits_of (key_size (structure_of body)) ≡ Some (key_bits (structure_of body))

-- a key size that question 23 takes
fitting : (k : ℕ) → (eqb k 0 || (within 40 128 k && eqb (k % 8) 0)) ≡ true → bits_of k ≡ Some (pick (eqb k 0) 40 k)
fitting k e =
    same_or k 0
    (λ z. sym (bits_zero k z) ∙ ap Some (sym (taken 40 k (eq-eqb k 0 z))))
    (λ z.
    let in_range = and_left (within 40 128 k) (eqb (k % 8) 0) (second_true (eqb k 0) (within 40 128 k && eqb (k % 8) 0) (ne_eqb k 0 z) e) in
    let most = within_to 40 128 k in_range in
    sym (bits_stated k z (omega arith)) ∙ ap Some (sym (left 40 k (ne_eqb k 0 z))))

module _ (body : List ℕ) (e : None ≡ asked (lock body)) (one : type_of body ≡ 1) (not_1_1 : is_office97 (structure_of body) ≡ false) where
  abbrev structure : List ℕ
  structure = structure_of body

  questions : asked (crypto_api structure) ≡ None
  questions = cryptoapi_passed structure (rc4_passed body (sym e) one) not_1_1

  -- questions 16, 17 and 23
  header_fits : within 32 1024 (header_size structure) ≡ true
  unfolding crypto_api
  header_fits = first_yes _ (drop 2 (crypto_api structure)) (behind 1 (crypto_api structure) questions)

  header_there : verifier_at structure ≤ length structure
  unfolding crypto_api
  header_there = leb-true (verifier_at structure) (length structure) (first_yes _ (drop 3 (crypto_api structure)) (behind 2 (crypto_api structure) questions))

  size_fits : (eqb (key_size structure) 0 || (within 40 128 (key_size structure) && eqb (key_size structure % 8) 0)) ≡ true
  unfolding crypto_api
  size_fits = first_yes _ (drop 9 (crypto_api structure)) (behind 8 (crypto_api structure) questions)

  long : 46 ≤ length body
  long =
      let least = within_from 32 1024 (header_size structure) header_fits in
      let there = header_there in
      let size = length-drop 2 body in
      omega arith

  structure_byte : (i : ℕ) → get_or structure i 0 ≡ get_or body (2 + i) 0
  structure_byte i = get_or-drop 2 body i 0

  pub cryptoapi_body : CryptoApiBody body
  unfolding le32
  cryptoapi_body =
      let major_fits = and_left (within 2 4 (major_of structure)) (eqb (minor_of structure) 2) (is_cryptoapi structure (rc4_passed body (sym e) one) not_1_1) in
      let minor_fits = and_right (within 2 4 (major_of structure)) (eqb (minor_of structure) 2) (is_cryptoapi structure (rc4_passed body (sym e) one) not_1_1) in
      let l = long in
      record {
        versioned =
            record {
              type = type_of body;
              typed = sym (le16_value body 0 (type_of body) (omega arith) refl);
              not_xor = λ z. not_both (type_of body) one z;
              least = within_from 2 4 (major_of structure) major_fits;
              most = within_to 2 4 (major_of structure) major_fits;
              major_there = sym (le16_value body 2 (major_of structure) (omega arith) (rw (structure_byte 0, structure_byte 1)));
              minor_there =
                  sym (le16_value body 4 (minor_of structure) (omega arith) (rw (structure_byte 2, structure_byte 3)))
                  ∙ ap Some (eqb-true (minor_of structure) 2 minor_fits);
            };
        stated =
            sym
            (le32_value body 30 (key_size structure) (omega arith)
            (rw (structure_byte 28, structure_byte 29, structure_byte 30, structure_byte 31)));
        size = fitting (key_size structure) size_fits;
      }
    where
      not_both : (t : ℕ) → t ≡ 1 → t ≡ 0 → ⊥
      not_both t a b = omega arith

-- the facts of such a body that is cut
module _ (body : List ℕ) (b : CryptoApiBody body) (n : ℕ) where
  cut_facts : 34 ≤ n → (facts_of (take n body)).key_size ≡ Some (key_bits (structure_of body))
  cut_facts h =
      ap (λ (f : Facts). f.key_size) (facts_are (take n body) (major_of (structure_of body)) first)
      ∙ ap bits_in (le32_first body n 30 (omega arith) ∙ b.stated)
      ∙ b.size
    where
      v : Versioned body (major_of (structure_of body))
      v = b.versioned

      first : Versioned (take n body) (major_of (structure_of body))
      first =
          record {
            type = v.type;
            typed = le16_first body n 0 (omega arith) ∙ v.typed;
            not_xor = v.not_xor;
            least = v.least;
            most = v.most;
            major_there = le16_first body n 2 (omega arith) ∙ v.major_there;
            minor_there = le16_first body n 4 (omega arith) ∙ v.minor_there;
          }

  cut_none : n < 34 → (facts_of (take n body)).key_size ≡ None
  cut_none h = no_size (take n body) (ap bits_in (sym (le32_beyond body n 30 (omega arith))))

-- what Open tells of a CryptoAPI book that passes its questions
module _ (s : List ℕ) (passed : None ≡ asked (lock (filepass_body s))) (is : (report s).lock ≡ CryptoApi) where
  abbrev its_body : List ℕ
  its_body = filepass_body s

  type_one : type_of its_body ≡ 1
  type_one =
      same_or (type_of its_body) 0
      (λ z. let g : Xor ≡ CryptoApi = ap (λ (r : Report). r.lock) (xor_reported s (book_of s) refl z) ∙ is in impossible (cc))
      (λ z. one (type_of its_body) z (at_most_one its_body passed))
    where
      one : (t : ℕ) → (t ≡ 0 → ⊥) → t ≤ 1 → t ≡ 1
      one t z h = omega arith

  not_office97 : is_office97 (structure_of its_body) ≡ false
  unfolding lock_of
  not_office97 = go (is_office97 (structure_of its_body)) refl
    where
      go : (t : Bool) → is_office97 (structure_of its_body) ≡ t → is_office97 (structure_of its_body) ≡ false
      go false g = g
      go true g =
          let l : lock_of (structure_of its_body) ≡ office97_lock = taken office97_lock (crypto_api_lock (structure_of its_body)) g in
          let z : Office97 ≡ CryptoApi = ap (λ (k : Rc4Lock). by_kind k.kind) (sym l) ∙ ap (λ (r : Report). r.lock) (rc4_reported s (book_of s) refl type_one) ∙ is in
          impossible (cc)

  bits_told : (report s).key_bits ≡ key_bits (structure_of its_body)
  unfolding lock_of
  bits_told =
      ap (λ (r : Report). r.key_bits) (sym (rc4_reported s (book_of s) refl type_one))
      ∙ ap (λ (k : Rc4Lock). k.key_bits) (left office97_lock (crypto_api_lock (structure_of its_body)) not_office97)

  bits_positive : (report s).key_bits ≡ 0 → ⊥
  bits_positive z =
      same_or (key_size (structure_of its_body)) 0
      (λ e. forty (sym (taken 40 (key_size (structure_of its_body)) (eq-eqb (key_size (structure_of its_body)) 0 e)) ∙ sym bits_told ∙ z))
      (λ e. e (sym (left 40 (key_size (structure_of its_body)) (ne_eqb (key_size (structure_of its_body)) 0 e)) ∙ sym bits_told ∙ z))
    where
      forty : ◌≡◌ {A = ℕ} 40 0 → ⊥
      forty g = omega arith

  its_fields : CryptoApiBody its_body
  its_fields = cryptoapi_body its_body passed type_one not_office97

  -- and what Look tells of it
  module _ (walked : asked (book s) ≡ None) where
    module _ (r : BiffRecord) (f : filepass (walk s).records ≡ Some r) where
      -- how much of the body Look reads
      abbrev n : ℕ
      n = 1048576 - (r.at + 4)

      body_is : its_body ≡ take r.len (drop (r.at + 4) s)
      unfolding filepass_body
      body_is = ap (body_of s) f

      size_read : r.at + 4 ≤ 1048576 → reported (look s) ≡ (facts_of (take n its_body)).key_size
      size_read h =
          ap reported (sym (look_found s _ (Filepass (r.at + 4) r.len) (seen_there s 1048576 r h ∙ sym (looked s r (bof s walked) f (in_order_lem s walked))) refl))
          ∙ ap (λ (b : List ℕ). (facts_of b).key_size) (part_cut s 1048576 (r.at + 4) r.len ∙ ap (take n) (sym body_is))

      size_same : r.at + 38 ≤ 1048576 → reported (look s) ≡ Some (report s).key_bits
      size_same h = size_read (omega arith) ∙ cut_facts its_body its_fields n (omega arith) ∙ ap Some (sym bits_told)

      size_none : 1048576 < r.at + 38 → reported (look s) ≡ None
      size_none h =
          either (r.at + 4) 1048576
          (λ k. size_read k ∙ cut_none its_body its_fields n (omega arith))
          (λ k. ap reported (sym (look_found s Unknown Unreadable (seen_not s 1048576 r k ∙ sym (looked s r (bof s walked) f (in_order_lem s walked))) refl)))

      size_only : reported (look s) ≡ Some (report s).key_bits → r.at + 38 ≤ 1048576
      size_only g =
          either (r.at + 38) 1048576
          (λ h. h)
          (λ h. let z : None ≡ Some (report s).key_bits = sym (size_none h) ∙ g in impossible (cc))

pub same_key_size : OfAnyRun
unfolding of_stream
same_key_size stream password scratch output verdict answer scratch' output' told v run a c =
    let h = has_opened stream password scratch output told scratch' output' (rw a at run) in
    let passed = none_of_both (book stream) (lock (filepass_body stream)) (sym h.alone) in
    let past_book = passed.0 in
    let past_lock = passed.1 in
    let is : (report stream).lock ≡ CryptoApi = ap (λ (r : Report). r.lock) (sym h.told) ∙ c in
    let r = first_found stream past_book in
    let bits : told.key_bits ≡ (report stream).key_bits = ap (λ (r : Report). r.key_bits) h.told in
    record {
      first = r.0;
      found = r.1;
      sized = λ z. bits_positive stream (sym past_lock) is (sym bits ∙ z);
      same = λ k. ap reported v ∙ size_same stream (sym past_lock) is past_book r.0 r.1 k ∙ ap Some (sym bits);
      only = λ g. size_only stream (sym past_lock) is past_book r.0 r.1 (sym (ap reported v) ∙ g ∙ ap Some bits);
      none_behind = λ k. ap reported v ∙ size_none stream (sym past_lock) is past_book r.0 r.1 k;
    }
