-- The record that an offset lies in, as a loop over the records of a walk finds it.
-- Assumes nothing.
use Rattle.std.specs.Prelude.{None, Some}
use mathlib.Core.Path.{◌≡◌, refl, sym, ap, ◌∙◌}
use denote.Bor.{Bor}
use mathlib.Core.Bool.{Bool, true, false}
use mathlib.Core.List.{List, []}
use Prim.Native.Nat.{ℕ, ◌+◌, ◌≤◌, ◌<◌}
use native.Mathlib.Omega.{arith}
use borrow.Author.Tests.{le-leb, lt-ltb, le-ltb}
use lib.ListN.{length}
use Rattle.laws.specs.Choice.{pick}
use Rattle.laws.proofs.Choice.{taken, left}
use Rattle.binary_office.specs.declared.Step.TheVariants as step
use Rattle.binary_office.specs.declared.BiffRecord.{BiffRecord}
use Rattle.binary_office.specs.declared.BiffRecords.{BiffRecords}
use Rattle.binary_office.specs.Records.{GivesRecord, GivesFault, GivesNothing}
use Rattle.binary_office.specs.Walk.{Walk, step_at, walk_at, walk, end_from, records_end}
use Rattle.binary_office.proofs.Along.{records_on, ends_on, end_on, records_end_lem, records_fault}
use Rattle.binary_office.proofs.Walks.{record_within, walk_fault}
use Rattle.excel97.specs.Open.{record_at, covers}

-- a record covers its header and body
covers_yes : (r : BiffRecord) (o : ℕ) → r.at ≤ o → o < r.at + 4 + r.len → covers r o ≡ true
covers_yes r o h k = rw (le-leb r.at o h, lt-ltb o (r.at + 4 + r.len) k)

covers_past : (r : BiffRecord) (o : ℕ) → r.at + 4 + r.len ≤ o → covers r o ≡ false
covers_past r o h = let g : r.at ≤ o = omega arith in rw (le-leb r.at o g, le-ltb o (r.at + 4 + r.len) h)

module _ (s : List ℕ) where
  -- what a loop over the records keeps: the walk from here on finds the record of every offset from here on, and ends as the whole walk does
  pub record Reached (at : ℕ) : Type 0 where
    pub inside : at ≤ length s
    pub rest : (o : ℕ) → at ≤ o → record_at (walk s).records o ≡ record_at (walk_at s at).records o
    pub ends : (walk_at s at).fault ≡ (walk s).fault
    pub end : end_from at (walk_at s at).records ≡ records_end s

  pub reached_none : Reached 0
  reached_none = record { inside = omega arith; rest = λ o h. refl; ends = refl; end = refl }

  module _ (at id len : ℕ) (w : Reached at) (e : step_at s at ≡ step.Record id len) where
    abbrev the : BiffRecord
    the = record { at = at; id = id; len = len }

    opened : (o : ℕ) → record_at (walk_at s at).records o ≡ pick (covers the o) (Some the) (record_at (walk_at s (at + 4 + len)).records o)
    unfolding record_at
    opened o = ap (λ (rs : List BiffRecord). record_at rs o) (records_on s at id len e)

    pub record_here : (o : ℕ) → at ≤ o → o < at + 4 + len → record_at (walk s).records o ≡ Some the
    record_here o h k = w.rest o h ∙ opened o ∙ taken (Some the) (record_at (walk_at s (at + 4 + len)).records o) (covers_yes the o h k)

    pub reached_on : Reached (at + 4 + len)
    reached_on =
        record {
          inside = record_within s at id len e;
          rest = λ o h. w.rest o (omega arith) ∙ opened o ∙ left (Some the) (record_at (walk_at s (at + 4 + len)).records o) (covers_past the o h);
          ends = sym (ends_on s at id len e) ∙ w.ends;
          end = sym (end_on s at id len e) ∙ w.end;
        }

  module _ (at : ℕ) (w : Reached at) where
    -- a walk that ends cleanly meets no fault
    pub reached_fault : (p : ℕ) → step_at s at ≡ step.Fault p → (walk s).fault ≡ None → ⊥
    reached_fault p e c = let g : Some p ≡ None = sym (ap (λ (v : Walk). v.fault) (walk_fault s at p e)) ∙ w.ends ∙ c in let z : ◌≡◌ {A = ℕ} 0 1 = cc in no z
      where
        no : ◌≡◌ {A = ℕ} 0 1 → ⊥
        no z = omega arith

    -- where no record is left, the records end, and no offset from there on lies in one
    pub reached_end : (walk_at s at).records ≡ [] → at ≡ records_end s
    reached_end e = sym (ap (end_from at) e) ∙ w.end

    pub in_none : (walk_at s at).records ≡ [] → (o : ℕ) → at ≤ o → record_at (walk s).records o ≡ None
    unfolding record_at
    in_none e o h = w.rest o h ∙ ap (λ (rs : List BiffRecord). record_at rs o) e

  -- a walker of this stream at an offset that the walk reaches, behind all records where it has met a fault
  pub record Stands (it : BiffRecords) (at : ℕ) : Type 0 where
    pub reached : Reached at
    pub over : it.book.now ≡ s
    pub here : it.pos ≡ at
    pub failed : it.failed ≡ true → (walk_at s at).records ≡ []

  -- a record that a call of the walker gave: it is at that offset, and the walker goes on to the next header
  pub record Meets (at : ℕ) (r : BiffRecord) (new : BiffRecords) : Type 0 where
    pub here : r.at ≡ at
    pub reached : Reached r.at
    pub found : step_at s r.at ≡ step.Record r.id r.len
    pub within : r.at + 4 + r.len ≤ length s
    pub on : Stands new (r.at + 4 + r.len)

  module _ (old new : BiffRecords) (at : ℕ) (w : Stands old at) where
    pub meets : (r : BiffRecord) → GivesRecord old r new → Meets at r new
    meets r g =
        let e : r.at ≡ at = g.at ∙ w.here in
        let reached : Reached r.at = rw e w.reached in
        let found : step_at s r.at ≡ step.Record r.id r.len = rw (g.at, ← w.over) g.found in
        record {
          here = e;
          reached = reached;
          found = found;
          within = record_within s r.at r.id r.len found;
          on = record {
            reached = reached_on r.at r.id r.len reached found;
            over = rw g.moved w.over;
            here = rw (g.moved, g.at) refl;
            failed = λ k. let f : true ≡ false = sym k ∙ ap (λ (b : BiffRecords). b.failed) g.moved in cc;
          };
        }

    pub stands_still : (p : ℕ) → GivesFault old p new → Stands new at
    stands_still p g =
        record {
          reached = w.reached;
          over = rw g.stays w.over;
          here = rw g.stays w.here;
          failed = λ k. records_fault s at p (rw (← w.over, ← w.here) g.found);
        }

    pub stands_last : GivesNothing old new → (walk_at s at).records ≡ []
    stands_last g = by old.failed refl
      where
        by : (b : Bool) → old.failed ≡ b → (walk_at s at).records ≡ []
        by true e = w.failed e
        by false e = records_end_lem s at (rw (← w.over, ← w.here) (g.found e))

-- a walker that `biff_records` made, as a loop takes it up
pub stands_first : (book : Bor (List ℕ)) (made it : BiffRecords) → it ≡ made → (made.book ≡ book) × (made.pos ≡ 0) × (made.failed ≡ false) → Stands book.now it 0
stands_first book made it same e =
    record {
      reached = reached_none book.now;
      over = rw (same, e.0) refl;
      here = rw same e.1;
      failed = λ k. let f : true ≡ false = sym k ∙ rw same e.2 in cc;
    }
