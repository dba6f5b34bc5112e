-- How many offsets the definition of the plain stream deciphers: record by record those behind the clear part, and no other. FILEPASS has a clear body, so
-- that what is zeroed was never counted.
-- Assumes nothing.
use Rattle.std.specs.Prelude.{Option, None, Some}
use mathlib.Core.Path.{◌≡◌, refl, sym, ap, ◌∙◌}
use mathlib.Core.Bool.{Bool, true, false}
use mathlib.Core.List.{List, []}
use Prim.Native.Nat.{ℕ, zero, suc, ◌+◌, ◌-◌, ◌≤◌, ◌<◌}
use native.Mathlib.Nat.{zero-add, add-zero, add-suc}
use native.Mathlib.Omega.{arith}
use borrow.Author.Tests.{lt-ltb, le-ltb}
use lib.ListN.{length}
use Rattle.laws.specs.Choice.{pick}
use Rattle.laws.proofs.Choice.{taken, left, same_or}
use Rattle.binary_office.specs.declared.Step.TheVariants as step
use Rattle.binary_office.specs.declared.BiffRecord.{BiffRecord}
use Rattle.binary_office.specs.Walk.{step_at, walk_at, walk, clear_len}
use Rattle.binary_office.proofs.Along.{records_end_lem, records_fault, along}
use Rattle.file_params.specs.Questions.{filepass}
use Rattle.survey.specs.Survey.{enciphered_len, enciphered_bytes}
use Rattle.survey.proofs.Records.{clear_within}
use Rattle.survey.proofs.Tallied.{bytes_more}
use Rattle.excel97.specs.Open.{record_at, blanked}
use Rattle.excel97.proofs.Records.{Reached, reached_none, reached_on, in_none, record_here}
use Rattle.excel97.proofs.SameBounds.{Sits, ahead, sits_on, record_kept}
use Rattle.forecast.specs.Theorems.{deciphers, count}

-- k offsets from a on of which none passes, or all
module _ (p : ℕ → Bool) (a : ℕ) where
  count_none : (k : ℕ) → ((o : ℕ) → a ≤ o → o < a + k → p o ≡ false) → count p (a + k) ≡ count p a
  unfolding count
  count_none zero h = ap (count p) (add-zero a)
  count_none (suc k) h =
      let last : p (a + k) ≡ false = h (a + k) (omega arith) (omega arith) in
      let before = count_none k (λ o m n. h o m (omega arith)) in
      ap (count p) (add-suc a k) ∙ ap (λ (n : ℕ). count p (a + k) + n) (left 1 0 last) ∙ add-zero (count p (a + k)) ∙ before

  count_all : (k : ℕ) → ((o : ℕ) → a ≤ o → o < a + k → p o ≡ true) → count p (a + k) ≡ count p a + k
  unfolding count
  count_all zero h = ap (count p) (add-zero a) ∙ sym (add-zero (count p a))
  count_all (suc k) h =
      let last : p (a + k) ≡ true = h (a + k) (omega arith) (omega arith) in
      let before = count_all k (λ o m n. h o m (omega arith)) in
      ap (count p) (add-suc a k) ∙ ap (λ (n : ℕ). count p (a + k) + n) (taken 1 0 last) ∙ (omega arith)

-- the body of FILEPASS is clear
clear_filepass : (id len : ℕ) → id ≡ 0x002F → clear_len id len ≡ len
unfolding clear_len pick
clear_filepass id len e = rw e refl

module _ (s : List ℕ) where
  abbrev first : Option BiffRecord
  first = filepass (walk s).records

  -- an offset in no record, in a header or clear part, behind them
  nowhere : (o : ℕ) → record_at (walk s).records o ≡ None → deciphers s o ≡ false
  unfolding deciphers pick
  nowhere o e = rw e (go (blanked first o))
    where
      go : (t : Bool) → pick t false false ≡ false
      go true = refl
      go false = refl

  module _ (r : BiffRecord) (o : ℕ) (e : record_at (walk s).records o ≡ Some r) where
    own : o < r.at + 4 + clear_len r.id r.len → deciphers s o ≡ false
    unfolding deciphers pick
    own h = rw (e, lt-ltb o (r.at + 4 + clear_len r.id r.len) h) (go (blanked first o))
      where
        go : (t : Bool) → pick t false false ≡ false
        go true = refl
        go false = refl

    behind : r.at + 4 + clear_len r.id r.len ≤ o → blanked first o ≡ false → deciphers s o ≡ true
    unfolding deciphers pick
    behind h b = rw (e, b, le-ltb o (r.at + 4 + clear_len r.id r.len) h)

  -- a record
  module _ (at id len : ℕ) (w : Reached s at) (f : Sits s first at) (e : step_at s at ≡ step.Record id len) where
    abbrev clear : ℕ
    clear = clear_len id len

    not_zeroed : (o : ℕ) → at + (4 + clear) ≤ o → o < at + 4 + len → blanked first o ≡ false
    not_zeroed o h k =
        same_or id 0x002F
        (λ q. let c = clear_filepass id len q in absurd (no c))
        (λ q. record_kept s first at id len e q f o (omega arith) k)
      where
        no : clear ≡ len → ⊥
        no c = omega arith

    one_record : count (deciphers s) (at + 4 + len) ≡ count (deciphers s) at + enciphered_len id len
    one_record =
        let least = clear_within id len in
        let all : at + 4 + len ≡ at + (4 + clear) + (len - clear) = omega arith in
        ap (count (deciphers s)) all
        ∙ count_all (deciphers s) (at + (4 + clear)) (len - clear)
        (λ o h k.
        let inside : o < at + 4 + len = omega arith in
        behind (record { at = at; id = id; len = len }) o (record_here s at id len w e o (omega arith) inside) (omega arith) (not_zeroed o h inside))
        ∙ ap (λ (n : ℕ). n + (len - clear))
        (count_none (deciphers s) at (4 + clear)
        (λ o h k. own (record { at = at; id = id; len = len }) o (record_here s at id len w e o h (omega arith)) (omega arith)))

  -- no record is left
  none_left : (at : ℕ) → (walk_at s at).records ≡ [] → (n : ℕ) → n ≡ count (deciphers s) at → n + enciphered_bytes (walk_at s at).records ≡ count (deciphers s) at
  unfolding enciphered_bytes
  none_left at e n en = rw (e, en) (add-zero (count (deciphers s) at))

  nothing_left : (at : ℕ) → Reached s at → (walk_at s at).records ≡ []
      → count (deciphers s) at + enciphered_bytes (walk_at s at).records ≡ count (deciphers s) (length s)
  nothing_left at w e =
      let i = w.inside in
      let n : length s ≡ at + (length s - at) = omega arith in
      none_left at e _ refl
      ∙ sym (ap (count (deciphers s)) n ∙ count_none (deciphers s) at (length s - at) (λ o h k. nowhere o (in_none s at w e o h)))

  pub all_counted : count (deciphers s) (length s) ≡ enciphered_bytes (walk s).records
  unfolding record_at count
  all_counted =
      sym
      (along s (λ (at : ℕ). Reached s at → Sits s first at → count (deciphers s) at + enciphered_bytes (walk_at s at).records ≡ count (deciphers s) (length s))
      (λ at e w f. nothing_left at w (records_end_lem s at e))
      (λ at p e w f. nothing_left at w (records_fault s at p e))
      (λ at id len e again w f.
      let next = again (reached_on s at id len w e) (sits_on s first at id len e f) in
      let here = one_record at id len w f e in
      let bytes = bytes_more s at id len e in
      omega arith)
      0
      (omega arith)
      (reached_none s)
      (ahead refl))
      ∙ zero-add (enciphered_bytes (walk s).records)
