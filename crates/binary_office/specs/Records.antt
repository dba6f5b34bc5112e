-- The walker of a stream's records: what it has left of the walk, and what a call of it gives.
-- Assumes nothing.
use Rattle.std.specs.Prelude.{◌≡◌, ℕ, ◌+◌, true, false, cond, [], length, None, Some, Option, Ok, Err, Result}
use Rattle.binary_office.specs.declared.BiffRecord.{BiffRecord}
use Rattle.binary_office.specs.declared.BiffRecords.{BiffRecords}
use Rattle.binary_office.specs.declared.Step.TheVariants as step
use Rattle.binary_office.specs.Walk.{step_at, Walk, behind, walk_at}

-- a walk of nothing, and what a walker has left of the walk: all from its position on, and nothing behind a fault
abbrev pub no_walk : Walk
no_walk = record { records = []; fault = None }

unfoldable pub walk_left : BiffRecords → Walk
walk_left r = cond r.failed no_walk (walk_at r.book.now r.pos)

-- how many items a walk gives: its records, and the place of a fault
abbrev pub fault_count : Option ℕ → ℕ
fault_count None = 0
fault_count (Some place) = 1

abbrev pub items_left : BiffRecords → ℕ
items_left r = length (walk_left r).records + fault_count (walk_left r).fault

-- a call that gives the record at the position: the walker goes on to the next header
pub record GivesRecord (old : BiffRecords) (r : BiffRecord) (new : BiffRecords) : Type 0 where
  pub going : old.failed ≡ false
  pub at : r.at ≡ old.pos
  pub found : step_at old.book.now old.pos ≡ step.Record r.id r.len
  pub moved : new ≡ record { book = old.book; pos = old.pos + 4 + r.len; failed = false }
  pub in_order : walk_left old ≡ behind r (walk_left new)

-- one that gives the place of the fault there: the walker stays, and gives nothing more
pub record GivesFault (old : BiffRecords) (place : ℕ) (new : BiffRecords) : Type 0 where
  pub going : old.failed ≡ false
  pub found : step_at old.book.now old.pos ≡ step.Fault place
  pub stays : new ≡ record { book = old.book; pos = old.pos; failed = true }
  pub in_order : walk_left old ≡ record { records = []; fault = Some place }
  pub over : walk_left new ≡ no_walk

-- one that gives nothing, at the end and behind a fault: the walker stays
pub record GivesNothing (old new : BiffRecords) : Type 0 where
  pub found : old.failed ≡ false → step_at old.book.now old.pos ≡ step.End
  pub stays : new ≡ old
  pub over : walk_left old ≡ no_walk

abbrev pub Gives : BiffRecords → Option (Result BiffRecord ℕ) → BiffRecords → Type 0
Gives old (Some (Ok r)) new = GivesRecord old r new
Gives old (Some (Err place)) new = GivesFault old place new
Gives old None new = GivesNothing old new
