-- The first record of a walk, and questions 6 and 7 by how the walk ends.
-- Assumes nothing.
use Rattle.std.specs.Prelude.{None, Some, Option}
use mathlib.Core.Path.{◌≡◌, refl, ap}
use mathlib.Core.Bool.{true, false}
use mathlib.Core.List.{List, []}
use Prim.Native.Nat.{ℕ}
use lib.Dec.{eqb}
use Rattle.binary_office.specs.declared.Step.TheVariants as step
use Rattle.binary_office.specs.declared.BiffRecord.{BiffRecord}
use Rattle.binary_office.specs.Walk.{step_at, walk_at}
use Rattle.binary_office.proofs.Along.{records_on}
use Rattle.file_params.specs.declared.Refusal.TheVariants.{BiffRecordUnreadable, WorkbookBofMissing}
use Rattle.file_params.specs.Questions.{asked, in_order, starts_bof}
use Rattle.file_params.proofs.Laws.{past, refused}

pub starts : (s : List ℕ) (at id len : ℕ) → step_at s at ≡ step.Record id len → starts_bof (walk_at s at).records ≡ eqb id 0x0809
starts s at id len e = ap starts_bof (records_on s at id len e)

pub not_bof : (rs : List BiffRecord) → rs ≡ [] → starts_bof rs ≡ false
not_bof rs e = rw e

module _ (fault : Option ℕ) (rs : List BiffRecord) where
  pub unreadable : (at : ℕ) → fault ≡ Some at → Some (BiffRecordUnreadable at) ≡ asked (in_order fault rs)
  unfolding asked in_order
  unreadable at e = rw e (refused _ refl)

  module _ (e : fault ≡ None) where
    pub no_bof : starts_bof rs ≡ false → Some WorkbookBofMissing ≡ asked (in_order fault rs)
    unfolding asked in_order
    no_bof g = rw e (past _ refl (refused _ g))

    pub in_order_lem : starts_bof rs ≡ true → None ≡ asked (in_order fault rs)
    unfolding asked in_order
    in_order_lem g = rw e (past _ refl (past _ g refl))
