-- The search among the BoundSheet8 records, from one to the next: what those before an offset left to be found from there on.
-- Assumes nothing.
use Rattle.std.specs.Prelude.{None, Some, Option}
use mathlib.Core.Path.{◌≡◌, refl, sym, ap, ◌∙◌}
use mathlib.Core.Bool.{true, false}
use mathlib.Core.List.{List, []}
use Prim.Native.Nat.{ℕ, suc, ◌+◌, ◌≤◌, ◌<◌}
use native.Mathlib.Omega.{arith}
use lib.ListN.{length}
use Rattle.std.specs.List.{slice_get}
use Rattle.std.proofs.lemmas.Option.{slice_get_past}
use Rattle.binary_office.specs.declared.BiffRecord.{BiffRecord}
use Rattle.binary_office.specs.Walk.{walk_at, walk}
use Rattle.directory.specs.Directory.{bound_sheets, start_of, starts, bof_at, unfit}
use Rattle.directory.specs.Steps.{Follows, NextSheet, Reaches}
use Rattle.directory.proofs.Records.{length_starts, reaches_front, reaches_bof, unfit_short, unfit_start, fit, fit_first, starts_first, starts_on, one_fewer, none_left, none_unfit, no_starts}

-- what the search for the next BoundSheet8 record tells
module _ (s : List ℕ) (from : ℕ) (o : Option BiffRecord) (h : NextSheet s from o) where
  pub sheet_told : (r : BiffRecord) → o ≡ Some r → Follows s from r
  sheet_told r e = rw e at h

  pub none_told : o ≡ None → bound_sheets (walk_at s from).records ≡ []
  none_told e = rw e at h

module _ (s : List ℕ) where
  abbrev all : List BiffRecord
  all = (walk s).records

  abbrev sheets_from : ℕ → List BiffRecord
  sheets_from at = bound_sheets (walk_at s at).records

  -- question 28: the records before an offset are fit, and their starts were reached
  pub record Judged (at from left : ℕ) : Type 0 where
    pub count : left ≡ length (sheets_from at)
    pub same : unfit s all (sheets_from at) ≡ unfit s all (bound_sheets all)
    pub reached : Reaches s from

  pub judged_none : (n : ℕ) → n ≡ length (bound_sheets all) → Judged 0 0 n
  judged_none n e = record { count = e; same = refl; reached = reaches_front s }

  module _ (at from left : ℕ) (j : Judged at from left) where
    pub judged_nothing : sheets_from at ≡ [] → None ≡ unfit s all (bound_sheets all)
    judged_nothing e = sym (none_unfit s all (sheets_from at) e) ∙ j.same

    pub judged_all : left ≤ 0 → None ≡ unfit s all (bound_sheets all)
    judged_all h = let c = j.count in judged_nothing (none_left (sheets_from at) (omega arith))

    module _ (r : BiffRecord) (f : Follows s at r) where
      abbrev behind : List BiffRecord
      behind = sheets_from (r.at + 4 + r.len)

      pub judged_short : r.len < 4 → Some r.at ≡ unfit s all (bound_sheets all)
      judged_short h = sym (unfit_short s all (sheets_from at) behind r f.first h) ∙ j.same

      module _ (start : ℕ) (h : 4 ≤ r.len) (e : start ≡ start_of s r) where
        pub judged_unfit : bof_at all start ≡ false → Some r.at ≡ unfit s all (bound_sheets all)
        judged_unfit g = sym (unfit_start s all (sheets_from at) behind r f.first h (rw e at g)) ∙ j.same

        pub judged_on : bof_at all start ≡ true → (n : ℕ) → left ≡ suc n → Judged (r.at + 4 + r.len) start n
        judged_on g n z =
            record {
              count = one_fewer s all (sheets_from at) behind r f.first n (sym z ∙ j.count);
              same = sym (fit s all (sheets_from at) behind r f.first h (rw e at g)) ∙ j.same;
              reached = reaches_bof s start g;
            }

  -- the start at a place: none of the records is refused, and so many stand before the place
  pub record Sought (place at before : ℕ) : Type 0 where
    pub fits : None ≡ unfit s all (sheets_from at)
    pub start : slice_get (starts s (sheets_from at)) before ≡ slice_get (starts s (bound_sheets all)) place

  pub sought_none : (place : ℕ) → None ≡ unfit s all (bound_sheets all) → Sought place 0 place
  sought_none place e = record { fits = e; start = refl }

  pub from_count : (n place : ℕ) → n ≡ length (bound_sheets all) → n ≤ place → None ≡ slice_get (starts s (bound_sheets all)) place
  from_count n place e h = sym (slice_get_past (starts s (bound_sheets all)) place (rw (length_starts s (bound_sheets all), ← e) h))

  module _ (place at before : ℕ) (k : Sought place at before) where
    pub sought_nothing : sheets_from at ≡ [] → None ≡ slice_get (starts s (bound_sheets all)) place
    sought_nothing e = sym (no_starts s (sheets_from at) before e) ∙ k.start

    module _ (r : BiffRecord) (f : Follows s at r) where
      abbrev after : List BiffRecord
      after = sheets_from (r.at + 4 + r.len)

      first_fits : (4 ≤ r.len) × (None ≡ unfit s all after)
      first_fits = fit_first s all (sheets_from at) after r f.first k.fits

      pub four_there : r.at + 4 + 4 ≤ length s
      four_there = let h = first_fits.0 in let w = f.within in omega arith

      pub sought_here : (start : ℕ) → before ≡ 0 → start ≡ start_of s r → Some start ≡ slice_get (starts s (bound_sheets all)) place
      sought_here start z e =
          ap Some e
          ∙ sym (starts_first s all (sheets_from at) after r f.first)
          ∙ ap (slice_get (starts s (sheets_from at))) (sym z)
          ∙ k.start

      pub sought_on : (n : ℕ) → before ≡ suc n → Sought place (r.at + 4 + r.len) n
      sought_on n z =
          record {
            fits = first_fits.1;
            start =
                sym (starts_on s all (sheets_from at) after r f.first n)
                ∙ ap (slice_get (starts s (sheets_from at))) (sym z)
                ∙ k.start;
          }
