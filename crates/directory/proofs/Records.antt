-- The BoundSheet8 and BOF records of a walk, taken one after the other.
-- Assumes nothing.
use Rattle.std.specs.Int.{from_bool}
use Rattle.std.specs.Prelude.{None, Some}
use mathlib.Core.Path.{◌≡◌, refl, sym, ap, ◌∙◌}
use mathlib.Core.Bool.{Bool, true, false, ◌&&◌, ◌||◌}
use mathlib.Core.List.{List, [], ◌∷◌}
use Prim.Native.Nat.{ℕ, suc, ◌+◌, ◌≤◌, ◌<◌}
use native.Mathlib.Omega.{arith}
use borrow.Author.Tests.{eq-eqb, ne_eqb, le-leb, lt-leb, leb-true}
use lib.Dec.{eqb, leb}
use lib.ListN.{length}
use Rattle.std.specs.List.{slice_get}
use Rattle.std.proofs.Math.Bool.{or-false}
use Rattle.std.proofs.lemmas.Bool.{false≢true}
use Rattle.laws.specs.Choice.{pick}
use Rattle.laws.proofs.Choice.{taken, left, same_or}
use Rattle.binary_office.specs.declared.Step.TheVariants as step
use Rattle.binary_office.specs.declared.BiffRecord.{BiffRecord}
use Rattle.binary_office.specs.Walk.{step_at, walk_at, walk}
use Rattle.binary_office.proofs.Walks.{record_within}
use Rattle.binary_office.proofs.Along.{records_on, records_end_lem, records_fault, along}
use Rattle.directory.specs.Directory.{is_bound_sheet, is_bof, bound_sheets, start_of, starts, bof_at, unfit}
use Rattle.directory.specs.Steps.{Follows, Reaches}

pub no_sheets : (rs : List BiffRecord) → rs ≡ [] → bound_sheets rs ≡ []
unfolding bound_sheets
no_sheets rs e = rw e

pub no_bofs : (rs : List BiffRecord) (p : ℕ) → rs ≡ [] → bof_at rs p ≡ false
unfolding bof_at
no_bofs rs p e = rw e

-- how many BoundSheet8 records one record more makes
pub count_more : (r : BiffRecord) (rs : List BiffRecord) → length (bound_sheets (r ∷ rs)) ≡ from_bool (is_bound_sheet r) + length (bound_sheets rs)
unfolding bound_sheets pick
count_more r rs = go (is_bound_sheet r)
  where
    go : (t : Bool) → length (pick t (r ∷ bound_sheets rs) (bound_sheets rs)) ≡ from_bool t + length (bound_sheets rs)
    go true = omega arith
    go false = omega arith

module _ (s : List ℕ) where
  module _ (at id len : ℕ) (e : step_at s at ≡ step.Record id len) where
    abbrev here : BiffRecord
    here = record { at = at; id = id; len = len }

    pub sheet_here : id ≡ 0x0085 → Follows s at here
    unfolding bound_sheets
    sheet_here g =
        record {
          first =
              ap bound_sheets (records_on s at id len e)
              ∙ taken (here ∷ bound_sheets (walk_at s (at + 4 + len)).records) (bound_sheets (walk_at s (at + 4 + len)).records) (eq-eqb id 0x0085 g);
          within = record_within s at id len e;
        }

    pub sheet_on : (id ≡ 0x0085 → ⊥) → bound_sheets (walk_at s at).records ≡ bound_sheets (walk_at s (at + 4 + len)).records
    unfolding bound_sheets
    sheet_on g =
        ap bound_sheets (records_on s at id len e)
        ∙ left (here ∷ bound_sheets (walk_at s (at + 4 + len)).records) (bound_sheets (walk_at s (at + 4 + len)).records) (ne_eqb id 0x0085 g)

    bof_opened : (p : ℕ) → bof_at (walk_at s at).records p ≡ ((eqb at p && is_bof here) || bof_at (walk_at s (at + 4 + len)).records p)
    unfolding bof_at
    bof_opened p = ap (λ (rs : List BiffRecord). bof_at rs p) (records_on s at id len e)

    -- a header elsewhere is not the one that is asked for
    pub bof_on : (p : ℕ) → (at ≡ p → ⊥) → bof_at (walk_at s at).records p ≡ bof_at (walk_at s (at + 4 + len)).records p
    bof_on p n = bof_opened p ∙ rw (ne_eqb at p n)

  -- every header from an offset on stands at that offset or behind it
  pub bof_behind : (p from : ℕ) → from ≤ length s → p < from → bof_at (walk_at s from).records p ≡ false
  bof_behind p =
      along s (λ (from : ℕ). p < from → bof_at (walk_at s from).records p ≡ false)
      (λ at e h. no_bofs (walk_at s at).records p (records_end_lem s at e))
      (λ at q e h. no_bofs (walk_at s at).records p (records_fault s at q e))
      (λ at id len e again h. bof_on at id len e p (apart at h) ∙ again (omega arith))
    where
      apart : (at : ℕ) → p < at → at ≡ p → ⊥
      apart at h g = omega arith

  -- the header at an offset or the first one behind it decides
  pub bof_here : (p at id len : ℕ) → step_at s at ≡ step.Record id len → p ≤ at → bof_at (walk_at s at).records p ≡ (eqb at p && eqb id 0x0809)
  bof_here p at id len e h =
      bof_opened at id len e p
      ∙ ap (λ (t : Bool). (eqb at p && eqb id 0x0809) || t) (bof_behind p (at + 4 + len) (record_within s at id len e) (omega arith))
      ∙ or-false (eqb at p && eqb id 0x0809)

  pub reaches_front : Reaches s 0
  reaches_front = record { inside = omega arith; rest = λ p h. refl }

  reaches_on : (at id len : ℕ) → step_at s at ≡ step.Record id len → Reaches s at → Reaches s (at + 4 + len)
  reaches_on at id len e w =
      record { inside = record_within s at id len e; rest = λ p h. w.rest p (omega arith) ∙ bof_on at id len e p (apart p h) }
    where
      apart : (p : ℕ) → at + 4 + len ≤ p → at ≡ p → ⊥
      apart p h g = omega arith

  -- the walk reaches every BOF record's header
  pub reaches_bof : (p : ℕ) → bof_at (walk s).records p ≡ true → Reaches s p
  reaches_bof p =
      along s (λ (at : ℕ). Reaches s at → bof_at (walk_at s at).records p ≡ true → Reaches s p)
      (λ at e w g. absurd (false≢true (sym (no_bofs (walk_at s at).records p (records_end_lem s at e)) ∙ g)))
      (λ at q e w g. absurd (false≢true (sym (no_bofs (walk_at s at).records p (records_fault s at q e)) ∙ g)))
      (λ at id len e again w g.
      same_or at p
      (λ z. rw (← z) w)
      (λ n. again (reaches_on at id len e w) (sym (bof_on at id len e p n) ∙ g)))
      0
      (omega arith)
      reaches_front

-- the search for a record that question 28 refuses, where one BoundSheet8 record stands first
module _ (s : List ℕ) (rs : List BiffRecord) (sheets rest : List BiffRecord) (r : BiffRecord) (e : sheets ≡ r ∷ rest) where
  unfit_opened : unfit s rs sheets ≡ pick (leb 4 r.len && bof_at rs (start_of s r)) (unfit s rs rest) (Some r.at)
  unfolding unfit
  unfit_opened = ap (unfit s rs) e

  pub unfit_short : r.len < 4 → unfit s rs sheets ≡ Some r.at
  unfit_short h = unfit_opened ∙ left (unfit s rs rest) (Some r.at) (rw (lt-leb 4 r.len h))

  module _ (h : 4 ≤ r.len) where
    pub unfit_start : bof_at rs (start_of s r) ≡ false → unfit s rs sheets ≡ Some r.at
    unfit_start g = unfit_opened ∙ left (unfit s rs rest) (Some r.at) (rw (le-leb 4 r.len h, g))

    pub fit : bof_at rs (start_of s r) ≡ true → unfit s rs sheets ≡ unfit s rs rest
    fit g = unfit_opened ∙ taken (unfit s rs rest) (Some r.at) (rw (le-leb 4 r.len h, g))

  -- where none is refused
  pub fit_first : None ≡ unfit s rs sheets → (4 ≤ r.len) × (None ≡ unfit s rs rest)
  unfolding pick
  fit_first g = go (leb 4 r.len) (bof_at rs (start_of s r)) refl (g ∙ unfit_opened)
    where
      go : (t u : Bool) → leb 4 r.len ≡ t → None ≡ pick (t && u) (unfit s rs rest) (Some r.at) → (4 ≤ r.len) × (None ≡ unfit s rs rest)
      go true true h k = (leb-true 4 r.len h, k)
      go true false h k = let z : ◌≡◌ {A = ℕ} 0 1 = cc in (omega arith, cc)
      go false u h k = let z : ◌≡◌ {A = ℕ} 0 1 = cc in (omega arith, cc)

  -- the starts, and how many there are
  pub starts_first : slice_get (starts s sheets) 0 ≡ Some (start_of s r)
  unfolding starts
  starts_first = ap (λ (l : List BiffRecord). slice_get (starts s l) 0) e

  pub starts_on : (n : ℕ) → slice_get (starts s sheets) (suc n) ≡ slice_get (starts s rest) n
  unfolding starts
  starts_on n = ap (λ (l : List BiffRecord). slice_get (starts s l) (suc n)) e

  pub one_fewer : (n : ℕ) → suc n ≡ length sheets → n ≡ length rest
  one_fewer n h = let g = ap length e in omega arith

-- as many starts as records
pub length_starts : (s : List ℕ) (rs : List BiffRecord) → length (starts s rs) ≡ length rs
unfolding starts
length_starts s [] = refl
length_starts s (r ∷ rs) = ap suc (length_starts s rs)

pub none_left : (sheets : List BiffRecord) → length sheets ≡ 0 → sheets ≡ []
none_left [] e = refl
none_left (r ∷ rs) e = let z : ◌≡◌ {A = ℕ} 0 1 = omega arith in cc

pub none_unfit : (s : List ℕ) (rs sheets : List BiffRecord) → sheets ≡ [] → unfit s rs sheets ≡ None
unfolding unfit
none_unfit s rs sheets e = ap (unfit s rs) e

pub no_starts : (s : List ℕ) (sheets : List BiffRecord) (n : ℕ) → sheets ≡ [] → slice_get (starts s sheets) n ≡ None
unfolding starts
no_starts s sheets n e = ap (λ (l : List BiffRecord). slice_get (starts s l) n) e
