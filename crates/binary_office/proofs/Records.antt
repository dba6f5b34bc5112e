-- What a call of the walker gives, by what stands at its position; and what a loop over it keeps.
-- Assumes nothing.
use Rattle.std.specs.Prelude.{Result, Ok, Err, Some}
use mathlib.Core.Path.{◌≡◌, refl, subst}
use denote.Bor.{Bor}
use mathlib.Core.Bool.{true, false}
use mathlib.Core.List.{List}
use Prim.Native.Nat.{ℕ, ◌+◌, ◌<◌}
use native.Mathlib.Omega.{arith}
use Rattle.binary_office.specs.declared.BiffRecord.{BiffRecord}
use Rattle.binary_office.specs.declared.BiffRecords.{BiffRecords}
use Rattle.binary_office.specs.declared.Step.TheVariants as step
use Rattle.binary_office.specs.Walk.{step_at, walk_at}
use Rattle.binary_office.specs.Records.{walk_left, items_left, GivesRecord, GivesFault, GivesNothing, Gives}
use Rattle.binary_office.proofs.Walks.{walk_end, walk_fault, walk_record}

-- behind a fault
pub gives_no_more : (r : BiffRecords) → r.failed ≡ true → GivesNothing r r
unfolding walk_left
gives_no_more r h = record { found = λ k. cc; stays = refl; over = rw h refl }

module _ (r : BiffRecords) (h : r.failed ≡ false) where
  pub gives_record : (id len : ℕ) → step_at r.book.now r.pos ≡ step.Record id len
      → GivesRecord r (record { at = r.pos; id = id; len = len }) (record { book = r.book; pos = r.pos + 4 + len; failed = r.failed })
  unfolding walk_left
  gives_record id len e =
      record { going = h; at = refl; found = e; moved = rw h refl; in_order = rw (h, walk_record r.book.now r.pos id len e) refl }

  pub gives_fault : (p : ℕ) → step_at r.book.now r.pos ≡ step.Fault p → GivesFault r p (record { book = r.book; pos = r.pos; failed = true })
  unfolding walk_left
  gives_fault p e = record { going = h; found = e; stays = refl; in_order = rw (h, walk_fault r.book.now r.pos p e) refl; over = refl }

  pub gives_nothing : step_at r.book.now r.pos ≡ step.End → GivesNothing r r
  unfolding walk_left
  gives_nothing e = record { found = λ k. e; stays = refl; over = rw (h, walk_end r.book.now r.pos e) refl }

-- an item leaves one fewer
pub fewer_records : (old new : BiffRecords) (r : BiffRecord) → GivesRecord old r new → items_left new < items_left old
fewer_records old new r g = rw g.in_order (omega arith)

pub fewer_faults : (old new : BiffRecords) (p : ℕ) → GivesFault old p new → items_left new < items_left old
fewer_faults old new p g = rw (g.in_order, g.over) (omega arith)

-- a walker that `biff_records` made, as a loop takes it up
module _ (book : Bor (List ℕ)) (pos : ℕ) (made it : BiffRecords) (same : it ≡ made) (e : (made.book ≡ book) × (made.pos ≡ pos) × (made.failed ≡ false)) where
  pub starts : walk_left it ≡ walk_at book.now pos
  unfolding walk_left
  starts = rw (same, e.2, e.1, e.0) refl

-- a loop that asks where the walker is: it is over a stream, and has met no fault
module _ (s : List ℕ) where
  pub record On (it : BiffRecords) : Type 0 where
    pub over : it.book.now ≡ s
    pub going : it.failed ≡ false

  module _ (old new : BiffRecords) where
    -- a record that a call gave it
    pub record Met (r : BiffRecord) : Type 0 where
      pub at : r.at ≡ old.pos
      pub found : step_at s old.pos ≡ step.Record r.id r.len
      pub moved : new.pos ≡ old.pos + 4 + r.len
      pub on : On new

    module _ (o : On old) where
      pub met_record : (r : BiffRecord) → GivesRecord old r new → Met r
      met_record r h = record { at = h.at; found = rw (← o.over) h.found; moved = rw h.moved refl; on = rw h.moved (record { over = o.over; going = refl }) }

      pub met_fault : (p : ℕ) → GivesFault old p new → step_at s old.pos ≡ step.Fault p
      met_fault p h = rw (← o.over) h.found

      pub met_end : GivesNothing old new → step_at s old.pos ≡ step.End
      met_end h = rw (← o.over) (h.found o.going)

module _ (book : Bor (List ℕ)) (pos : ℕ) (made it : BiffRecords) (same : it ≡ made) (e : (made.book ≡ book) × (made.pos ≡ pos) × (made.failed ≡ false)) where
  pub starts_on : On book.now it
  starts_on = record { over = rw (same, e.0) refl; going = rw same e.2 }

  pub starts_at : it.pos ≡ pos
  starts_at = rw same e.1

-- what a call gave, where the code has told a record from a fault
module _ (old new : BiffRecords) (x : Result BiffRecord ℕ) (g : Gives old (Some x) new) where
  pub gave_record : (r : BiffRecord) → x ≡ Ok r → GivesRecord old r new
  gave_record r e = subst (λ (y : Result BiffRecord ℕ). Gives old (Some y) new) e g

  pub gave_fault : (p : ℕ) → x ≡ Err p → GivesFault old p new
  gave_fault p e = subst (λ (y : Result BiffRecord ℕ). Gives old (Some y) new) e g
