-- The directory of a book with padding behind it: the same records, and the same bytes at every offset, as there are only zeros past the end. So each check but
-- the last has the same row, and the last, BOF and EOF, the same answer, with the stream's length for its detail where a BOF is left open.
-- Assumes nothing.
use Rattle.std.specs.Option.{unwrap_or}
use Rattle.std.specs.Prelude.{Option, None, Some, Ok, Err, Result, is_none}
use mathlib.Core.Path.{◌≡◌, refl, sym, ap, ◌∙◌}
use mathlib.Core.Bool.{Bool, true, false}
use mathlib.Core.List.{List, [], ◌∷◌, ◌++◌}
use Prim.Native.Nat.{ℕ, ◌+◌, ◌-◌, ◌≤◌, ◌<◌}
use native.Mathlib.Omega.{arith}
use borrow.Author.Tests.{le-leb}
use lib.Dec.{eqb}
use lib.ListN.{length}
use Rattle.laws.specs.Choice.{pick}
use Rattle.word.specs.Word.{le32}
use Rattle.binary_office.specs.declared.BiffRecord.{BiffRecord}
use Rattle.binary_office.specs.Walk.{zero_bytes, walk_at, walk, remainder}
use Rattle.binary_office.proofs.Walks.{record_within}
use Rattle.binary_office.proofs.Along.{records_on, records_end_lem, records_fault, along}
use Rattle.binary_office.proofs.Remainder.{padded_length, padded_byte}
use Rattle.file_params.specs.declared.Refusal.{Refusal}
use Rattle.file_params.specs.declared.Refusal.TheVariants.{StreamTooLarge, BiffRecordUnreadable, WorkbookBofMissing, BoundSheetStart, BofEofUnpaired}
use Rattle.file_params.specs.Refusal.{number}
use Rattle.file_params.specs.Questions.{asked, unless, in_order}
use Rattle.file_params.proofs.Laws.{unless_refused}
use Rattle.excel97.proofs.Padded.{walked}
use Rattle.directory.specs.declared.Sheets.{Sheets}
use Rattle.directory.specs.Directory.{is_bof, is_eof, bound_sheets, start_of, starts, unfit, unpaired, of_sheets, checks, sheets_of, directory}
use Rattle.directory.specs.Theorems.{TwoBooks}

-- every record stands before an offset
abbrev Before : ℕ → List BiffRecord → Type 0
Before size [] = Unit {0}
Before size (r ∷ rs) = (r.at < size) × Before size rs

before_end : (s : List ℕ) → Before (length s) (walk s).records
before_end s =
    along s (λ (at : ℕ). Before (length s) (walk_at s at).records)
    (λ at e. rw (records_end_lem s at e) tt)
    (λ at p e. rw (records_fault s at p e) tt)
    (λ at id len e again. let inside = record_within s at id len e in rw (records_on s at id len e) (omega arith, again))
    0
    (omega arith)

-- how BOF and EOF pair up, with one number or another for the stream's length
data Brackets (n m : ℕ) (d e : Option ℕ) : Type 0 where
  paired : d ≡ None → e ≡ None → Brackets n m d e
  stray : (o : ℕ) → o < n → d ≡ Some o → e ≡ Some o → Brackets n m d e
  left_open : d ≡ Some n → e ≡ Some m → Brackets n m d e

brackets : (n m opened : ℕ) (rs : List BiffRecord) → Before n rs → Brackets n m (unpaired n opened rs) (unpaired m opened rs)
unfolding unpaired pick
brackets n m opened [] inside = by (eqb opened 0)
  where
    by : (t : Bool) → Brackets n m (pick t None (Some n)) (pick t None (Some m))
    by true = paired refl refl
    by false = left_open refl refl
brackets n m opened (r ∷ rs) inside =
    by (is_bof r) (is_eof r) (eqb opened 0) (brackets n m (opened + 1) rs inside.1) (brackets n m (opened - 1) rs inside.1) (brackets n m opened rs inside.1)
  where
    by : (t u v : Bool) → Brackets n m (unpaired n (opened + 1) rs) (unpaired m (opened + 1) rs)
        → Brackets n m (unpaired n (opened - 1) rs) (unpaired m (opened - 1) rs) → Brackets n m (unpaired n opened rs) (unpaired m opened rs)
        → Brackets n m
        (pick t (unpaired n (opened + 1) rs) (pick u (pick v (Some r.at) (unpaired n (opened - 1) rs)) (unpaired n opened rs)))
        (pick t (unpaired m (opened + 1) rs) (pick u (pick v (Some r.at) (unpaired m (opened - 1) rs)) (unpaired m opened rs)))
    by true u v a b c = a
    by false true true a b c = stray r.at inside.0 refl refl
    by false true false a b c = b
    by false false v a b c = c

-- two answers of the checks: the same, or both 29 with the streams' lengths
data Alike (n m : ℕ) (d e : Option Refusal) : Type 0 where
  same : d ≡ e → (d ≡ Some (BofEofUnpaired n) → ⊥) → Alike n m d e
  both_open : d ≡ Some (BofEofUnpaired n) → e ≡ Some (BofEofUnpaired m) → Alike n m d e

-- the rows, of which the last is by how BOF and EOF pair up
abbrev rows : (fits whole first sheets : Bool) → (fault sheet : ℕ) → (bracket : Option ℕ) → Option Refusal
rows fits whole first sheets fault sheet bracket =
    let last = pick (is_none bracket) None (Some (BofEofUnpaired (unwrap_or bracket 0))) in
    let for_sheets = pick sheets last (Some (BoundSheetStart sheet)) in
    pick fits (pick whole (pick first for_sheets (Some WorkbookBofMissing)) (Some (BiffRecordUnreadable fault))) (Some StreamTooLarge)

no : ◌≡◌ {A = ℕ} 0 1 → ⊥
no z = omega arith

not_less : (o n : ℕ) → o < n → o ≡ n → ⊥
not_less o n h y = omega arith

by_rows : (n m : ℕ) (fits whole first sheets : Bool) (fault sheet : ℕ) (d e : Option ℕ) → Brackets n m d e
    → Alike n m (rows fits whole first sheets fault sheet d) (rows fits whole first sheets fault sheet e)
unfolding pick
by_rows n m false whole first sheets fault sheet d e b = same refl (λ z. no (cc))
by_rows n m true false first sheets fault sheet d e b = same refl (λ z. no (cc))
by_rows n m true true false sheets fault sheet d e b = same refl (λ z. no (cc))
by_rows n m true true true false fault sheet d e b = same refl (λ z. no (cc))
by_rows n m true true true true fault sheet d e (paired p q) = rw (p, q) (same refl (λ z. no (cc)))
by_rows n m true true true true fault sheet d e (stray o h p q) = rw (p, q) (same refl (λ z. let y : o ≡ n = cc in not_less o n h y))
by_rows n m true true true true fault sheet d e (left_open p q) = rw (p, q) (both_open refl refl)

module _ (s : List ℕ) (n : ℕ) (filled : remainder s ≡ []) (most : n ≤ 3) (fits : length s + n ≤ 1073741824) where
  abbrev longer : List ℕ
  longer = s ++ zero_bytes n

  abbrev all : List BiffRecord
  all = (walk s).records

  same_start : (r : BiffRecord) → start_of longer r ≡ start_of s r
  unfolding le32
  same_start r =
      let byte = padded_byte s n in
      let a = r.at + 4 in
      rw (byte a, byte (a + 1), byte (a + 2), byte (a + 3)) refl

  same_starts : (rs : List BiffRecord) → starts longer rs ≡ starts s rs
  unfolding starts
  same_starts [] = refl
  same_starts (r ∷ rs) = rw (same_start r, same_starts rs)

  same_unfit : (rs : List BiffRecord) → unfit longer all rs ≡ unfit s all rs
  unfolding unfit
  same_unfit [] = refl
  same_unfit (r ∷ rs) = rw (same_start r, same_unfit rs)

  alike : Alike (length s) (length s + n) (asked (checks s)) (asked (checks longer))
  unfolding checks in_order of_sheets asked
  alike =
      let size = padded_length s n in
      let w = walked s n filled most in
      rw (w.records, w.ends, same_unfit (bound_sheets all), size, le-leb (length s + n) 1073741824 fits, le-leb (length s) 1073741824 (omega arith))
      (by_rows (length s) (length s + n) true _ _ _ _ _ _ _ (brackets (length s) (length s + n) 0 all (before_end s)))

  module _ (place : ℕ) where
    abbrev told : Sheets
    told = sheets_of s (bound_sheets all) place

    abbrev told_longer : Sheets
    told_longer = sheets_of longer (bound_sheets (walk longer).records) place

    same_sheets : told_longer ≡ told
    same_sheets = rw ((walked s n filled most).records, same_starts (bound_sheets all))

    same_told : (d : Option Refusal) → unless told_longer d ≡ unless told d
    same_told d = ap (λ (x : Sheets). unless x d) same_sheets

    refusal_is : {q r : Refusal} → ◌≡◌ {A = Result Sheets Refusal} (Err q) (Err r) → q ≡ r
    refusal_is e = cc

    by : (d e : Option Refusal) → directory s place ≡ unless told d → directory longer place ≡ unless told_longer e → Alike (length s) (length s + n) d e
        → TwoBooks s n place
    by d e a b (same q f) =
        let equal : directory longer place ≡ directory s place = b ∙ same_told e ∙ ap (unless told) (sym q) ∙ sym a in
        record {
          told_to = λ t h. equal ∙ h;
          told_from = λ t h. sym equal ∙ h;
          refused_to = λ r m h. equal ∙ h;
          refused_from = λ r m h. sym equal ∙ h;
          stray = λ o k h. equal ∙ h;
          left_open = λ h. absurd (f (sym (unless_refused told d (BofEofUnpaired (length s)) (sym a ∙ h))));
        }
    by d e a b (both_open q p) =
        let x : directory s place ≡ Err (BofEofUnpaired (length s)) = a ∙ ap (unless told) q in
        let y : directory longer place ≡ Err (BofEofUnpaired (length s + n)) = b ∙ ap (unless told_longer) p in
        record {
          told_to = λ t h. let z : Err (BofEofUnpaired (length s)) ≡ Ok t = sym x ∙ h in cc;
          told_from = λ t h. let z : Err (BofEofUnpaired (length s + n)) ≡ Ok t = sym y ∙ h in cc;
          refused_to = λ r m h. absurd (m (sym (ap number (refusal_is (sym x ∙ h)))));
          refused_from = λ r m h. absurd (m (sym (ap number (refusal_is (sym y ∙ h)))));
          stray = λ o k h. absurd (not_less o (length s) k (sym (offset_is (refusal_is (sym x ∙ h)))));
          left_open = λ h. y;
        }
      where
        offset_is : {i j : ℕ} → BofEofUnpaired i ≡ BofEofUnpaired j → i ≡ j
        offset_is e = cc

    pub two_books : TwoBooks s n place
    unfolding directory
    two_books = by (asked (checks s)) (asked (checks longer)) refl refl alike
