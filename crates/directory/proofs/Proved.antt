-- What request T-01 says of the directory: where it answers, no check found anything, and each of its sentences is what one check did not find.
-- Assumes nothing.
use Rattle.std.specs.Option.{unwrap_or}
use Rattle.std.specs.Prelude.{Option, None, Some, Ok, Err, is_none}
use mathlib.Core.Path.{◌≡◌, refl, sym, ap, ◌∙◌}
use mathlib.Core.Bool.{Bool, true, false, ◌&&◌, ◌||◌}
use mathlib.Core.List.Memᴰ
use mathlib.Core.List.{List, [], ◌∷◌, Memᴰ, ◌++◌}
use mathlib.Core.Logic.{inl, inr}
use Prim.Native.Nat.{ℕ, zero, suc, ◌≤◌, ◌<◌}
use native.Mathlib.Omega.{arith}
use borrow.Author.Tests.{eqb-true, eq-eqb, le-leb, leb-true}
use lib.Dec.{eqb, leb}
use lib.ListN.{length, get_or, take, length-append}
use lib.Seq.{get_or-take, length-take-le}
use Rattle.std.proofs.lemmas.Option.{none-some, slice_get_past, slice_get-get_or}
use Rattle.std.specs.List.{slice_get}
use Rattle.std.proofs.lemmas.Bool.{false≢true}
use Rattle.laws.specs.Choice.{pick}
use Rattle.laws.proofs.Choice.{either, or_right}
use Rattle.binary_office.specs.declared.BiffRecord.{BiffRecord}
use Rattle.binary_office.specs.Walk.{walk}
use Rattle.file_params.specs.declared.Refusal.{Refusal}
use Rattle.file_params.specs.declared.Refusal.TheVariants.{StreamTooLarge, BiffRecordUnreadable, WorkbookBofMissing, BoundSheetStart, BofEofUnpaired}
use Rattle.file_params.specs.Questions.{asked, unless, in_order, starts_bof}
use Rattle.file_params.proofs.Laws.{unless_refused, unless_passed, unless_told}
use Rattle.excel97.specs.declared.Report.{Report}
use Rattle.excel97.specs.Open.{Opens}
use Rattle.excel97.specs.Demand3.{Plain}
use Rattle.survey.proofs.Told.{ends_clean}
use Rattle.excel97.proofs.Settled.{HasOpened, has_opened}
use Rattle.excel97.proofs.PlainBytes.{plain_left, in_stream, length_plain}
use Rattle.directory.specs.declared.Sheets.{Sheets}
use Rattle.directory.specs.Directory.{is_bof, bound_sheets, start_of, starts, bof_at, unfit, unpaired, of_sheets, checks, sheets_of, directory}
use Rattle.directory.specs.Brackets.{bof}
use Rattle.directory.specs.Theorems.{Answers, TwoPlaces, Directories, Header, Fits, FirstUnfit}
use Rattle.directory.proofs.Balance.{counted}
use Rattle.directory.proofs.Records.{length_starts}
use Rattle.directory.proofs.SameDirectory.{no_unfit, no_unpaired, same_directory}
use Rattle.directory.proofs.TwoBooks.{two_books}

-- the test of a header, and the record that it finds
bof_record : (rs : List BiffRecord) (p : ℕ) → bof_at rs p ≡ true → (r : BiffRecord) × (Memᴰ r rs) × (r.at ≡ p) × (r.id ≡ bof)
unfolding bof_at
bof_record [] p e = absurd (false≢true e)
bof_record (r ∷ rs) p e = go (eqb r.at p) (is_bof r) refl refl e (bof_record rs p)
  where
    go : (t u : Bool) → eqb r.at p ≡ t → is_bof r ≡ u → ((t && u) || bof_at rs p) ≡ true
        → (bof_at rs p ≡ true → (q : BiffRecord) × (Memᴰ q rs) × (q.at ≡ p) × (q.id ≡ bof))
        → (q : BiffRecord) × (Memᴰ q (r ∷ rs)) × (q.at ≡ p) × (q.id ≡ bof)
    go true true f g e again = (r, Memᴰ.head refl, eqb-true r.at p f, eqb-true r.id 0x0809 g)
    go true false f g e again = let w = again e in (w.0, Memᴰ.tail w.1, w.2, w.3)
    go false u f g e again = let w = again e in (w.0, Memᴰ.tail w.1, w.2, w.3)

record_bof : (rs : List BiffRecord) (r : BiffRecord) (p : ℕ) → Memᴰ r rs → r.at ≡ p → r.id ≡ bof → bof_at rs p ≡ true
unfolding bof_at
record_bof [] r p i e g = absurd (Memᴰ.not-nil i)
record_bof (t ∷ rs) r p i e g =
    elim (Memᴰ.cases_cons i) [
      | inl q ↦ rw (eq-eqb t.at p (sym (ap (λ (x : BiffRecord). x.at) q) ∙ e), eq-eqb t.id 0x0809 (sym (ap (λ (x : BiffRecord). x.id) q) ∙ g))
      | inr j ↦ rw (record_bof rs r p j e g) (or_right (eqb t.at p && is_bof t) true refl)
    ]

module _ (s : List ℕ) where
  abbrev fitting : BiffRecord → Bool
  fitting r = leb 4 r.len && bof_at (walk s).records (start_of s r)

  fits : (r : BiffRecord) → fitting r ≡ true → Fits s r
  fits r e = go (leb 4 r.len) (bof_at (walk s).records (start_of s r)) refl refl e
    where
      go : (t u : Bool) → leb 4 r.len ≡ t → bof_at (walk s).records (start_of s r) ≡ u → (t && u) ≡ true → Fits s r
      go true true h k e = record { four = leb-true 4 r.len h; start = bof_record (walk s).records (start_of s r) k }
      go true false h k e = absurd (false≢true e)
      go false u h k e = absurd (false≢true e)

  fits_tested : (r : BiffRecord) → Fits s r → fitting r ≡ true
  fits_tested r f =
      let w = f.start in
      rw (le-leb 4 r.len f.four, record_bof (walk s).records w.0 (start_of s r) w.1 w.2 w.3)

  -- the search for a BoundSheet8 record that does not fit: it finds none, or the first
  all_fit : (rs : List BiffRecord) → unfit s (walk s).records rs ≡ None → (r : BiffRecord) → Memᴰ r rs → Fits s r
  unfolding unfit pick
  all_fit [] e r i = absurd (Memᴰ.not-nil i)
  all_fit (t ∷ rs) e r i = go (fitting t) refl e (all_fit rs)
    where
      go : (b : Bool) → fitting t ≡ b → pick b (unfit s (walk s).records rs) (Some t.at) ≡ None
          → (unfit s (walk s).records rs ≡ None → (q : BiffRecord) → Memᴰ q rs → Fits s q) → Fits s r
      go true h e again = elim (Memᴰ.cases_cons i) [ inl q ↦ rw q (fits t h) | inr j ↦ again e r j ]
      go false h e again = let z : false ≡ true = cc in absurd (false≢true z)

  record First (rs : List BiffRecord) (p : ℕ) : Type 0 where
    before : List BiffRecord
    this : BiffRecord
    behind : List BiffRecord
    split : rs ≡ before ++ (this ∷ behind)
    fit : (r : BiffRecord) → Memᴰ r before → Fits s r
    unfits : Fits s this → ⊥
    place : this.at ≡ p

  first_unfit : (rs : List BiffRecord) (p : ℕ) → unfit s (walk s).records rs ≡ Some p → First rs p
  unfolding unfit pick
  first_unfit [] p e = let z : false ≡ true = cc in absurd (false≢true z)
  first_unfit (t ∷ rs) p e = go (fitting t) refl e (first_unfit rs p)
    where
      none_before : (r : BiffRecord) → Memᴰ r [] → Fits s r
      none_before r i = absurd (Memᴰ.not-nil i)

      more : fitting t ≡ true → First rs p → First (t ∷ rs) p
      more h w =
          record {
            before = t ∷ w.before;
            this = w.this;
            behind = w.behind;
            split = ap (λ (l : List BiffRecord). t ∷ l) w.split;
            fit = λ r i. elim (Memᴰ.cases_cons i) [ inl q ↦ rw q (fits t h) | inr j ↦ w.fit r j ];
            unfits = w.unfits;
            place = w.place;
          }

      go : (b : Bool) → fitting t ≡ b → pick b (unfit s (walk s).records rs) (Some t.at) ≡ Some p
          → (unfit s (walk s).records rs ≡ Some p → First rs p) → First (t ∷ rs) p
      go true h e again = more h (again e)
      go false h e again =
          record { before = []; this = t; behind = rs; split = refl; fit = none_before; unfits = λ f. absurd (false≢true (sym h ∙ fits_tested t f)); place = cc }

module _ (s : List ℕ) where
  abbrev all : List BiffRecord
  all = (walk s).records

  abbrev sheets : List BiffRecord
  sheets = bound_sheets all

  -- the start at a place is that of the record at that place
  start_of_lem : (place : ℕ) (rs : List BiffRecord) → place < length rs → ((r : BiffRecord) → Memᴰ r rs → Fits s r) → Header s (get_or (starts s rs) place 0)
  unfolding starts
  start_of_lem place [] h f = absurd (no place h)
    where
      no : (i : ℕ) → i < 0 → ⊥
      no i h = omega arith
  start_of_lem zero (r ∷ rs) h f = (f r (Memᴰ.head refl)).start
  start_of_lem (suc n) (r ∷ rs) h f = start_of_lem n rs (omega arith) (λ q i. f q (Memᴰ.tail i))

  -- what was told is told past all checks
  module _ (place : ℕ) (t : Sheets) where
    told_by : directory s place ≡ Ok t → t ≡ sheets_of s sheets place
    unfolding directory
    told_by e = unless_told (sheets_of s sheets place) t (asked (checks s)) e

    module _ (e : directory s place ≡ Ok t) where
      passed : asked (checks s) ≡ None
      unfolding directory
      passed = sym (unless_passed (sheets_of s sheets place) t (asked (checks s)) e)

      start_is : t.start ≡ slice_get (starts s sheets) place
      start_is = ap (λ (x : Sheets). x.start) (told_by e)

      count_is : t.count ≡ length (starts s sheets)
      count_is = ap (λ (x : Sheets). x.count) (told_by e) ∙ sym (length_starts s sheets)

      from_count : t.count ≤ place → t.start ≡ None
      from_count h = start_is ∙ slice_get_past (starts s sheets) place (rw count_is at h)

      -- below the count there is a start, the one of that place
      below_count : place < t.count → t.start ≡ Some (get_or (starts s sheets) place 0)
      below_count h = start_is ∙ slice_get-get_or (starts s sheets) place 0 (rw count_is at h)

      told_header : (p : ℕ) → t.start ≡ Some p → Header s p
      told_header p g =
          either t.count place
          (λ h. let z : Some p ≡ None = sym g ∙ from_count h in absurd (none-some _ (sym z)))
          (λ h.
          let z : Some p ≡ Some (get_or (starts s sheets) place 0) = sym g ∙ below_count h in
          let q : get_or (starts s sheets) place 0 ≡ p = cc in
          let below : place < length sheets = rw (length_starts s sheets) at (rw count_is at h) in
          rw q at (start_of_lem place sheets below (all_fit s sheets (no_unfit s passed))))

      answers : Answers s place t
      answers =
          record {
            header = told_header;
            every = all_fit s sheets (no_unfit s passed);
            brackets = counted.passes (length s) all (no_unpaired s passed);
            none_there = λ g.
                either t.count place (λ h. h)
                (λ h. let z : Some (get_or (starts s sheets) place 0) ≡ None = sym (below_count h) ∙ g in absurd (none-some _ (sym z)));
            none_from = from_count;
          }

  two_places : (p q : ℕ) → TwoPlaces s p q
  unfolding directory
  two_places p q =
      record {
        same_refusal = λ r e. sym (ap (unless (sheets_of s sheets q)) (unless_refused (sheets_of s sheets p) (asked (checks s)) r e));
        same_count = λ t u e g. ap (λ (x : Sheets). x.count) (told_by p t e) ∙ sym (ap (λ (x : Sheets). x.count) (told_by q u g));
      }

-- the checks, asked from the top
abbrev rows : (t u v : Bool) → (fault : ℕ) → (sheet bracket : Option ℕ) → Option Refusal
rows t u v fault sheet bracket =
    pick t
    (pick u
    (pick v
    (pick (is_none sheet) (pick (is_none bracket) None (Some (BofEofUnpaired (unwrap_or bracket 0)))) (Some (BoundSheetStart (unwrap_or sheet 0))))
    (Some WorkbookBofMissing))
    (Some (BiffRecordUnreadable fault)))
    (Some StreamTooLarge)

rows_28 : (t u v : Bool) (fault : ℕ) (sheet bracket : Option ℕ) (p : ℕ) → rows t u v fault sheet bracket ≡ Some (BoundSheetStart p) → sheet ≡ Some p
unfolding pick
rows_28 true true true fault None None p e = cc
rows_28 true true true fault None (Some q) p e = cc
rows_28 true true true fault (Some q) bracket p e = cc
rows_28 true true false fault sheet bracket p e = cc
rows_28 true false v fault sheet bracket p e = cc
rows_28 false u v fault sheet bracket p e = cc

rows_29 : (t u v : Bool) (fault : ℕ) (sheet bracket : Option ℕ) (p : ℕ) → rows t u v fault sheet bracket ≡ Some (BofEofUnpaired p)
    → (sheet ≡ None) × (bracket ≡ Some p)
unfolding pick
rows_29 true true true fault None None p e = (refl, cc)
rows_29 true true true fault None (Some q) p e = (refl, cc)
rows_29 true true true fault (Some q) bracket p e = (cc, cc)
rows_29 true true false fault sheet bracket p e = (cc, cc)
rows_29 true false v fault sheet bracket p e = (cc, cc)
rows_29 false u v fault sheet bracket p e = (cc, cc)

module _ (s : List ℕ) (place : ℕ) where
  abbrev fits_limit : Bool
  fits_limit = leb (length s) 1073741824

  abbrev found_unfit : Option ℕ
  found_unfit = unfit s (walk s).records (bound_sheets (walk s).records)

  abbrev found_unpaired : Option ℕ
  found_unpaired = unpaired (length s) 0 (walk s).records

  refused_by : (r : Refusal) → directory s place ≡ Err r
      → rows fits_limit (is_none (walk s).fault) (starts_bof (walk s).records) (unwrap_or (walk s).fault 0) found_unfit found_unpaired ≡ Some r
  unfolding directory asked checks in_order of_sheets
  refused_by r e = sym (unless_refused (sheets_of s (bound_sheets (walk s).records) place) (asked (checks s)) r e)

  by_28 : (p : ℕ) → directory s place ≡ Err (BoundSheetStart p) → FirstUnfit s p
  by_28 p e =
      let g = rows_28 fits_limit (is_none (walk s).fault) (starts_bof (walk s).records) (unwrap_or (walk s).fault 0) found_unfit found_unpaired p
      (refused_by (BoundSheetStart p) e) in
      let w = first_unfit s (bound_sheets (walk s).records) p g in
      record { before = w.before; this = w.this; behind = w.behind; sheets = w.split; fit = w.fit; unfits = w.unfits; place = w.place }

  by_29 : (p : ℕ) → directory s place ≡ Err (BofEofUnpaired p)
      → ((r : BiffRecord) → Memᴰ r (bound_sheets (walk s).records) → Fits s r) × (found_unpaired ≡ Some p)
  by_29 p e =
      let g = rows_29 fits_limit (is_none (walk s).fault) (starts_bof (walk s).records) (unwrap_or (walk s).fault 0) found_unfit found_unpaired p
      (refused_by (BofEofUnpaired p) e) in
      (all_fit s (bound_sheets (walk s).records) g.0, g.1)

-- a run that opened: the walk ends cleanly, and the plain stream is written
module _ (s p scratch output : List ℕ) (told : Report) (scratch' output' : List ℕ) (run : Opens s p scratch output (Ok told) scratch' output') where
  opened : HasOpened s p output told output'
  opened = has_opened s p scratch output told scratch' output' run

  clean_walk : (walk s).fault ≡ None
  clean_walk = ends_clean s opened.alone

  is_plain : Plain s p output' told
  is_plain = plain_left s p output output' told clean_walk opened.told opened.written

  room : length s ≤ length output'
  room = rw opened.written (simp (length-append, length_plain) (omega arith))

  byte : (o : ℕ) → o < length s → get_or (take (length s) output') o 0 ≡ get_or output' o 0
  byte o h = get_or-take (length s) output' o 0 h

  plain_directory : (place : ℕ) → directory (take (length s) output') place ≡ directory s place
  plain_directory =
      same_directory s (take (length s) output') (length-take-le (length s) output' room) clean_walk
      (λ r o e h g. byte o (in_stream s r o e) ∙ is_plain.own r o e h g)
      (λ o h e. byte o h ∙ is_plain.zeroed o h e)
      (λ o h k. byte o k ∙ is_plain.padded o h k)

pub directories : Directories
unfolding checks in_order of_sheets
directories =
    record {
      answers = λ s place t e. answers s place t e;
      two_places = two_places;
      refused_28 = by_28;
      refused_29 = by_29;
      numbered = λ s. refl;
      of_padded = two_books;
      plain_same = plain_directory;
    }
