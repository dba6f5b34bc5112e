-- A stream that opens and its plain form have the same directory. The plain form's records are the stream's, with another id for the first FILEPASS alone,
-- which is no BoundSheet8, BOF or EOF before nor after; and the four bytes of a BoundSheet8 record stand in the clear.
-- Assumes nothing.
use Rattle.std.specs.Prelude.{Option, None, Some, Ok, is_none}
use mathlib.Core.Path.{◌≡◌, refl, sym, ap, ◌∙◌}
use mathlib.Core.Bool.{Bool, true, false, ◌&&◌}
use mathlib.Core.List.{List, [], ◌∷◌, Memᴰ}
use Prim.Native.Nat.{ℕ, suc, ◌+◌, ◌-◌, ◌≤◌, ◌<◌, min}
use native.Mathlib.Omega.{arith}
use borrow.Author.Tests.{eqb-true, leb-true}
use lib.Dec.{eqb, leb}
use lib.ListN.{length, get_or}
use Rattle.laws.specs.Choice.{pick}
use Rattle.laws.proofs.Choice.{and_left}
use Rattle.word.specs.Word.{le32}
use Rattle.binary_office.specs.declared.BiffRecord.{BiffRecord}
use Rattle.binary_office.specs.Walk.{walk, records_end, clear_len}
use Rattle.binary_office.proofs.Renamed.{renamed}
use Rattle.file_params.specs.declared.Refusal.{Refusal}
use Rattle.file_params.specs.Questions.{Question, asked, unless, stream_fits, in_order, starts_bof, filepass}
use Rattle.excel97.specs.Open.{record_at, blanked}
use Rattle.file_params.proofs.Laws.{none_of_both, first_yes, rest_yes}
use Rattle.excel97.proofs.SameBounds.{unlocked, own_bytes, same_records}
use Rattle.directory.specs.Directory.{is_bound_sheet, bound_sheets, start_of, starts, bof_at, unfit, unpaired, of_sheets, checks, sheets_of, directory}

-- other ids that tell the same of an id: whether it is BoundSheet8, BOF or EOF
record Keeps (new : ℕ → ℕ → ℕ) : Type 0 where
  sheet : (at id : ℕ) → eqb (new at id) 0x0085 ≡ eqb id 0x0085
  bof : (at id : ℕ) → eqb (new at id) 0x0809 ≡ eqb id 0x0809
  eof : (at id : ℕ) → eqb (new at id) 0x000A ≡ eqb id 0x000A

keeps : (first : Option BiffRecord) → Keeps (unlocked first)
unfolding unlocked pick
keeps first = record { sheet = told 0x0085 refl refl; bof = told 0x0809 refl refl; eof = told 0x000A refl refl }
  where
    -- 0 and FILEPASS are no such id
    told : (k : ℕ) → eqb 0 k ≡ false → eqb 0x002F k ≡ false → (at id : ℕ) → eqb (unlocked first at id) k ≡ eqb id k
    told k z f at id = go (eqb id 0x002F && blanked first at) refl
      where
        go : (t : Bool) → (eqb id 0x002F && blanked first at) ≡ t → eqb (pick t 0 id) k ≡ eqb id k
        go true e = let q : id ≡ 0x002F = eqb-true id 0x002F (and_left (eqb id 0x002F) (blanked first at) e) in rw q (z ∙ sym f)
        go false e = refl

module _ (new : ℕ → ℕ → ℕ) (k : Keeps new) where
  sheets_renamed : (rs : List BiffRecord) → bound_sheets (renamed new rs) ≡ renamed new (bound_sheets rs)
  unfolding bound_sheets pick
  sheets_renamed [] = refl
  sheets_renamed (r ∷ rs) = rw (k.sheet r.at r.id) (go (is_bound_sheet r) (sheets_renamed rs))
    where
      this : BiffRecord
      this = record { at = r.at; id = new r.at r.id; len = r.len }

      go : (t : Bool) → bound_sheets (renamed new rs) ≡ renamed new (bound_sheets rs)
          → pick t (this ∷ bound_sheets (renamed new rs)) (bound_sheets (renamed new rs)) ≡ renamed new (pick t (r ∷ bound_sheets rs) (bound_sheets rs))
      go true e = ap (λ (l : List BiffRecord). this ∷ l) e
      go false e = e

  bof_renamed : (p : ℕ) (rs : List BiffRecord) → bof_at (renamed new rs) p ≡ bof_at rs p
  unfolding bof_at
  bof_renamed p [] = refl
  bof_renamed p (r ∷ rs) = rw (k.bof r.at r.id, bof_renamed p rs)

  starts_renamed : (rs : List BiffRecord) → starts_bof (renamed new rs) ≡ starts_bof rs
  starts_renamed [] = refl
  starts_renamed (r ∷ rs) = k.bof r.at r.id

  unpaired_renamed : (size n : ℕ) (rs : List BiffRecord) → unpaired size n (renamed new rs) ≡ unpaired size n rs
  unfolding unpaired
  unpaired_renamed size n [] = refl
  unpaired_renamed size n (r ∷ rs) =
      rw (k.bof r.at r.id, k.eof r.at r.id, unpaired_renamed size (n + 1) rs, unpaired_renamed size (n - 1) rs, unpaired_renamed size n rs)

  length_renamed : (rs : List BiffRecord) → length (renamed new rs) ≡ length rs
  length_renamed [] = refl
  length_renamed (r ∷ rs) = ap suc (length_renamed rs)

  -- the starts of BoundSheet8 records whose four bytes are the same
  module _ (s d : List ℕ) (all all' : List BiffRecord) (same : (p : ℕ) → bof_at all' p ≡ bof_at all p) where
    abbrev SameStart : BiffRecord → Type 0
    SameStart r = 4 ≤ r.len → le32 d (r.at + 4) ≡ le32 s (r.at + 4)

    unfit_renamed : (rs : List BiffRecord) → ((r : BiffRecord) → Memᴰ r rs → SameStart r) → unfit d all' (renamed new rs) ≡ unfit s all rs
    unfolding unfit pick
    unfit_renamed [] f = refl
    unfit_renamed (r ∷ rs) f = go (leb 4 r.len) refl (unfit_renamed rs (λ t i. f t (Memᴰ.tail i)))
      where
        go : (t : Bool) → leb 4 r.len ≡ t → unfit d all' (renamed new rs) ≡ unfit s all rs
            → pick (t && bof_at all' (le32 d (r.at + 4))) (unfit d all' (renamed new rs)) (Some r.at)
            ≡ pick (t && bof_at all (le32 s (r.at + 4))) (unfit s all rs) (Some r.at)
        go true e g = rw (f r (Memᴰ.head refl) (leb-true 4 r.len e), same (le32 s (r.at + 4)), g)
        go false e g = refl

    starts_same : (rs : List BiffRecord) → ((r : BiffRecord) → Memᴰ r rs → SameStart r) → unfit s all rs ≡ None → starts d (renamed new rs) ≡ starts s rs
    unfolding unfit starts pick
    starts_same [] f e = refl
    starts_same (r ∷ rs) f e = go (leb 4 r.len) (bof_at all (start_of s r)) refl e (starts_same rs (λ t i. f t (Memᴰ.tail i)))
      where
        go : (t u : Bool) → leb 4 r.len ≡ t → pick (t && u) (unfit s all rs) (Some r.at) ≡ None
            → (unfit s all rs ≡ None → starts d (renamed new rs) ≡ starts s rs)
            → le32 d (r.at + 4) ∷ starts d (renamed new rs) ≡ le32 s (r.at + 4) ∷ starts s rs
        go true true e g again = rw (f r (Memᴰ.head refl) (leb-true 4 r.len e), again g)
        go true false e g again = cc
        go false u e g again = cc

-- a BoundSheet8 record is one of the records
among : (rs : List BiffRecord) (r : BiffRecord) → Memᴰ r (bound_sheets rs) → (Memᴰ r rs) × (r.id ≡ 0x0085)
unfolding bound_sheets pick
among [] r i = elim i [ ]
among (t ∷ rs) r i = go (is_bound_sheet t) refl i (among rs r)
  where
    first : is_bound_sheet t ≡ true → Memᴰ r (t ∷ bound_sheets rs) → (Memᴰ r (bound_sheets rs) → (Memᴰ r rs) × (r.id ≡ 0x0085))
        → (Memᴰ r (t ∷ rs)) × (r.id ≡ 0x0085)
    first e (Memᴰ.head q) again = (Memᴰ.head q, ap (λ (x : BiffRecord). x.id) q ∙ eqb-true t.id 0x0085 e)
    first e (Memᴰ.tail j) again = let k = again j in (Memᴰ.tail k.0, k.1)

    go : (b : Bool) → is_bound_sheet t ≡ b → Memᴰ r (pick b (t ∷ bound_sheets rs) (bound_sheets rs))
        → (Memᴰ r (bound_sheets rs) → (Memᴰ r rs) × (r.id ≡ 0x0085)) → (Memᴰ r (t ∷ rs)) × (r.id ≡ 0x0085)
    go true e i again = first e i again
    go false e i again = let k = again i in (Memᴰ.tail k.0, k.1)

-- past all checks none found anything
module _ (s : List ℕ) (e : asked (checks s) ≡ None) where
  found_none : (o : Option ℕ) → is_none o ≡ true → o ≡ None
  found_none None h = refl
  found_none (Some p) h = cc

  sheets_passed : asked (of_sheets s) ≡ None
  unfolding checks
  sheets_passed = (none_of_both (in_order (walk s).fault (walk s).records) (of_sheets s) (rest_yes (stream_fits (length s)) _ e)).1

  pub no_unfit : unfit s (walk s).records (bound_sheets (walk s).records) ≡ None
  unfolding of_sheets
  no_unfit = found_none (unfit s (walk s).records (bound_sheets (walk s).records)) (first_yes _ _ sheets_passed)

  pub no_unpaired : unpaired (length s) 0 (walk s).records ≡ None
  unfolding of_sheets
  no_unpaired = found_none (unpaired (length s) 0 (walk s).records) (first_yes _ [] (rest_yes _ _ sheets_passed))

-- any bytes that keep headers, clear parts and padding, and are zero where a FILEPASS is zeroed
module _ (s d : List ℕ) (size : length d ≡ length s) (ended : (walk s).fault ≡ None)
    (own : (r : BiffRecord) (o : ℕ) → record_at (walk s).records o ≡ Some r → o < r.at + 4 + clear_len r.id r.len → blanked (filepass (walk s).records) o ≡ false
    → get_or d o 0 ≡ get_or s o 0)
    (zeroed : (o : ℕ) → o < length s → blanked (filepass (walk s).records) o ≡ true → get_or d o 0 ≡ 0)
    (kept : (o : ℕ) → records_end s ≤ o → o < length s → get_or d o 0 ≡ get_or s o 0) where
  abbrev all : List BiffRecord
  all = (walk s).records

  abbrev new : ℕ → ℕ → ℕ
  new = unlocked (filepass all)

  records_are : (walk d).records ≡ renamed new all
  records_are = (same_records s d size ended own zeroed kept).0

  four_clear : (len : ℕ) → 4 ≤ len → clear_len 0x0085 len ≡ 4
  unfolding clear_len pick
  four_clear len h = let g : min 4 len ≡ 4 = omega arith in g

  same_start : (r : BiffRecord) → Memᴰ r (bound_sheets all) → 4 ≤ r.len → le32 d (r.at + 4) ≡ le32 s (r.at + 4)
  unfolding le32
  same_start r i h =
      let m = among all r i in
      let a = r.at + 4 in
      let b = byte m in
      rw (b a (omega arith) (omega arith), b (a + 1) (omega arith) (omega arith), b (a + 2) (omega arith) (omega arith), b (a + 3) (omega arith) (omega arith)) refl
    where
      other : r.id ≡ 0x0085 → r.id ≡ 0x002F → ⊥
      other e g = omega arith

      byte : (Memᴰ r all) × (r.id ≡ 0x0085) → (o : ℕ) → r.at + 4 ≤ o → o < r.at + 8 → get_or d o 0 ≡ get_or s o 0
      byte m o a b =
          let c : clear_len r.id r.len ≡ 4 = rw m.1 (four_clear r.len h) in
          own_bytes s d size ended own zeroed kept r m.0 (other m.1) o (omega arith) (omega arith)

  same_sheets : bound_sheets (walk d).records ≡ renamed new (bound_sheets all)
  same_sheets = ap bound_sheets records_are ∙ sheets_renamed new (keeps (filepass all)) all

  same_bof : (p : ℕ) → bof_at (walk d).records p ≡ bof_at all p
  same_bof p = ap (λ (rs : List BiffRecord). bof_at rs p) records_are ∙ bof_renamed new (keeps (filepass all)) p all

  same_unfit : unfit d (walk d).records (bound_sheets (walk d).records) ≡ unfit s all (bound_sheets all)
  same_unfit =
      ap (unfit d (walk d).records) same_sheets
      ∙ unfit_renamed new (keeps (filepass all)) s d all (walk d).records same_bof (bound_sheets all) same_start

  same_ends : (walk d).fault ≡ (walk s).fault
  same_ends = (same_records s d size ended own zeroed kept).1

  same_first : starts_bof (walk d).records ≡ starts_bof all
  same_first = ap starts_bof records_are ∙ starts_renamed new (keeps (filepass all)) all

  same_unpaired : unpaired (length s) 0 (walk d).records ≡ unpaired (length s) 0 all
  same_unpaired = ap (unpaired (length s) 0) records_are ∙ unpaired_renamed new (keeps (filepass all)) (length s) 0 all

  same_checks : checks d ≡ checks s
  unfolding checks in_order of_sheets
  same_checks = rw (size, same_ends, same_first, same_unfit, same_unpaired) refl

  same_told : (place : ℕ) → unfit s all (bound_sheets all) ≡ None → sheets_of d (bound_sheets (walk d).records) place ≡ sheets_of s (bound_sheets all) place
  same_told place e =
      ap (λ (rs : List BiffRecord). sheets_of d rs place) same_sheets
      ∙ rw (
        length_renamed new (keeps (filepass all)) (bound_sheets all),
        starts_same new (keeps (filepass all)) s d all (walk d).records same_bof (bound_sheets all) same_start e,
      ) refl

  pub same_directory : (place : ℕ) → directory d place ≡ directory s place
  unfolding directory
  same_directory place =
      ap (λ (qs : List Question). unless (sheets_of d (bound_sheets (walk d).records) place) (asked qs)) same_checks ∙ go (asked (checks s)) refl
    where
      go : (o : Option Refusal) → asked (checks s) ≡ o → unless (sheets_of d (bound_sheets (walk d).records) place) o ≡ unless (sheets_of s (bound_sheets all) place) o
      go None e = ap Ok (same_told place (no_unfit s e))
      go (Some r) e = refl
