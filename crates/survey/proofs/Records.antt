-- The records of a walk, taken one after the other: the first FILEPASS, and the first other id before it.
-- Assumes nothing.
use Rattle.std.specs.Prelude.{None, Some}
use mathlib.Core.Path.{◌≡◌, sym, ap, ◌∙◌}
use mathlib.Core.Bool.{Bool, true, false}
use mathlib.Core.List.{List, []}
use Prim.Native.Nat.{ℕ, ◌+◌, ◌≤◌, min}
use native.Mathlib.Nat.{le_refl}
use native.Mathlib.Omega.{arith}
use borrow.Author.Tests.{eq-eqb, ne_eqb}
use lib.Dec.{eqb}
use lib.ListN.{length}
use Rattle.laws.specs.Choice.{pick}
use Rattle.laws.proofs.Choice.{taken, left, same_or}
use Rattle.binary_office.specs.declared.Step.TheVariants as step
use Rattle.binary_office.specs.declared.BiffRecord.{BiffRecord}
use Rattle.binary_office.specs.Walk.{step_at, walk_at, never_encrypted, clear_len}
use Rattle.binary_office.proofs.Along.{records_on, records_end_lem, records_fault, along}
use Rattle.file_params.specs.Questions.{filepass, other_id}

module _ (s : List ℕ) where
  module _ (at id len : ℕ) (e : step_at s at ≡ step.Record id len) where
    -- the record there
    abbrev here : BiffRecord
    here = record { at = at; id = id; len = len }

    pub filepass_here : id ≡ 0x002F → filepass (walk_at s at).records ≡ Some here
    unfolding filepass
    filepass_here g = ap filepass (records_on s at id len e) ∙ taken (Some here) (filepass (walk_at s (at + 4 + len)).records) (eq-eqb id 0x002F g)

    pub filepass_on : (id ≡ 0x002F → ⊥) → filepass (walk_at s at).records ≡ filepass (walk_at s (at + 4 + len)).records
    unfolding filepass
    filepass_on g = ap filepass (records_on s at id len e) ∙ left (Some here) (filepass (walk_at s (at + 4 + len)).records) (ne_eqb id 0x002F g)

    past : (id ≡ 0x002F → ⊥) → other_id (walk_at s at).records ≡ pick (never_encrypted id) (other_id (walk_at s (at + 4 + len)).records) (Some id)
    unfolding other_id
    past g = ap other_id (records_on s at id len e) ∙ left None (pick (never_encrypted id) (other_id (walk_at s (at + 4 + len)).records) (Some id)) (ne_eqb id 0x002F g)

    pub other_here : (id ≡ 0x002F → ⊥) → never_encrypted id ≡ false → other_id (walk_at s at).records ≡ Some id
    other_here g h = past g ∙ left (other_id (walk_at s (at + 4 + len)).records) (Some id) h

    pub other_on_lem : (id ≡ 0x002F → ⊥) → never_encrypted id ≡ true → other_id (walk_at s at).records ≡ other_id (walk_at s (at + 4 + len)).records
    other_on_lem g h = past g ∙ taken (other_id (walk_at s (at + 4 + len)).records) (Some id) h

pub no_filepass : (rs : List BiffRecord) → rs ≡ [] → filepass rs ≡ None
unfolding filepass
no_filepass rs e = rw e

-- the first FILEPASS of the walk from an offset on: a record with that id, there or behind it
module _ (s : List ℕ) where
  pub record Located (at : ℕ) (r : BiffRecord) : Type 0 where
    pub from : at ≤ r.at
    pub stands : step_at s r.at ≡ step.Record 0x002F r.len

  pub located : (at : ℕ) → at ≤ length s → (r : BiffRecord) → filepass (walk_at s at).records ≡ Some r → Located at r
  located =
      along s (λ (at : ℕ). (r : BiffRecord) → filepass (walk_at s at).records ≡ Some r → Located at r)
      (λ at e r g. none_there at r (no_filepass (walk_at s at).records (records_end_lem s at e)) g)
      (λ at p e r g. none_there at r (no_filepass (walk_at s at).records (records_fault s at p e)) g)
      (λ at id len e again r g.
      same_or id 0x002F
      (λ q. it_is at id len r e q (sym (filepass_here s at id len e q) ∙ g))
      (λ q. let h = again r (sym (filepass_on s at id len e q) ∙ g) in let f = h.from in record { from = omega arith; stands = h.stands }))
    where
      none_there : (at : ℕ) (r : BiffRecord) → filepass (walk_at s at).records ≡ None → filepass (walk_at s at).records ≡ Some r → Located at r
      none_there at r e g = let z : None ≡ Some r = sym e ∙ g in absurd (no (cc))
        where
          no : ◌≡◌ {A = ℕ} 0 1 → ⊥
          no z = omega arith

      it_is : (at id len : ℕ) (r : BiffRecord) → step_at s at ≡ step.Record id len → id ≡ 0x002F → Some (record { at = at; id = id; len = len }) ≡ Some r → Located at r
      it_is at id len r e q g =
          let z : record { at = at; id = id; len = len } ≡ r = cc in
          rw (← z) (record { from = le_refl at; stands = e ∙ ap (λ (i : ℕ). step.Record i len) q })

-- a clear part is no longer than its body
pub clear_within : (id len : ℕ) → clear_len id len ≤ len
unfolding clear_len pick
clear_within id len = go (never_encrypted id) (eqb id 0x0085)
  where
    go : (t u : Bool) → pick t len (pick u (min 4 len) 0) ≤ len
    go true u = omega arith
    go false true = omega arith
    go false false = omega arith
