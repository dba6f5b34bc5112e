-- The checks of the directory, by what each found: the first that finds something answers, and past all of them the sheets are told.
-- Assumes nothing.
use Rattle.std.specs.Prelude.{Option, None, Some, Ok, Err}
use mathlib.Core.Path.{◌≡◌, refl, sym, ap, ◌∙◌}
use mathlib.Core.List.{List, []}
use Prim.Native.Nat.{ℕ, ◌≤◌, ◌<◌}
use borrow.Author.Tests.{le-leb, lt-leb}
use lib.ListN.{length}
use Rattle.std.specs.List.{slice_get}
use Rattle.binary_office.specs.declared.BiffRecord.{BiffRecord}
use Rattle.binary_office.specs.Walk.{walk}
use Rattle.file_params.specs.declared.Refusal.{Refusal}
use Rattle.file_params.specs.declared.Refusal.TheVariants.{StreamTooLarge, BoundSheetStart, BofEofUnpaired}
use Rattle.file_params.specs.Questions.{asked, unless, in_order}
use Rattle.file_params.proofs.Laws.{past, refused, asked_on, asked_stop}
use Rattle.directory.specs.declared.Sheets.{Sheets}
use Rattle.directory.specs.declared.Tally.{Tally}
use Rattle.directory.specs.Directory.{bound_sheets, starts, unfit, unpaired, of_sheets, checks, sheets_of, directory}
use Rattle.directory.specs.Steps.{unpaired_by, tally_of}
use Rattle.directory.proofs.Pairings.{unpaired_whole}

module _ (s : List ℕ) (place : ℕ) where
  abbrev all : List BiffRecord
  all = (walk s).records

  abbrev sheets : List BiffRecord
  sheets = bound_sheets all

  -- what is told where no question refuses
  abbrev told : Sheets
  told = sheets_of s sheets place

  -- questions 28 and 29
  pub sheet_refused : (p : ℕ) → Some p ≡ unfit s all sheets → Err (BoundSheetStart p) ≡ unless told (asked (of_sheets s))
  unfolding asked of_sheets
  sheet_refused p e = let h : Some (BoundSheetStart p) ≡ asked (of_sheets s) = rw (← e) (refused _ refl) in ap (unless told) h

  module _ (t : Tally) (et : t ≡ tally_of s) where
    bracket_found : unpaired_by (length s) t.pairing [] ≡ unpaired (length s) 0 all
    unfolding tally_of
    bracket_found = rw et (unpaired_whole (length s) (Ok 0) all)

    pub sheets_counted : t.sheets ≡ length sheets
    unfolding tally_of
    sheets_counted = ap (λ (x : Tally). x.sheets) et

    module _ (e : None ≡ unfit s all sheets) where
      pub bracket_refused : (p : ℕ) → Some p ≡ unpaired_by (length s) t.pairing [] → Err (BofEofUnpaired p) ≡ unless told (asked (of_sheets s))
      unfolding asked of_sheets
      bracket_refused p g =
          let h : Some (BofEofUnpaired p) ≡ asked (of_sheets s) = rw (← e, ← g ∙ bracket_found) (past _ refl (refused _ refl)) in
          ap (unless told) h

      pub sheets_told : None ≡ unpaired_by (length s) t.pairing [] → (start : Option ℕ) → start ≡ slice_get (starts s sheets) place
          → Ok (record { count = t.sheets; start = start }) ≡ unless told (asked (of_sheets s))
      unfolding asked of_sheets
      sheets_told g start es =
          let h : None ≡ asked (of_sheets s) = rw (← e, ← g ∙ bracket_found) (past _ refl (past _ refl refl)) in
          rw (es, sheets_counted) refl ∙ ap (unless told) h

  -- question 4, and those behind it
  pub too_large : 1073741824 < length s → Err StreamTooLarge ≡ directory s place
  unfolding directory asked checks
  too_large h = ap (unless told) (refused _ (lt-leb (length s) 1073741824 h))

  module _ (h : length s ≤ 1073741824) where
    pub walk_refused : (r : Refusal) → Some r ≡ asked (in_order (walk s).fault all) → Err r ≡ directory s place
    unfolding directory asked checks
    walk_refused r e =
        ap (unless told) (past _ (le-leb (length s) 1073741824 h) (asked_stop (in_order (walk s).fault all) (of_sheets s) r e))

    pub walk_fine : None ≡ asked (in_order (walk s).fault all) → unless told (asked (of_sheets s)) ≡ directory s place
    unfolding directory asked checks
    walk_fine e =
        ap (unless told) (past _ (le-leb (length s) 1073741824 h) (sym (asked_on (in_order (walk s).fault all) (of_sheets s) e)))
