-- Two streams of equal length whose headers agree but for ids, and whose padding agrees: the walk of the second is the first's with other ids. What is known of
-- each offset that the walk of the first reaches is kept from header to header, and gives there the two fields of the second, and at the end its padding.
-- Assumes nothing.
use Rattle.std.specs.Prelude.{Some}
use mathlib.Core.Path.{◌≡◌, sym, ap, ◌∙◌}
use mathlib.Core.List.{List, [], ◌∷◌}
use Prim.Native.Nat.{ℕ, ◌+◌, ◌≤◌}
use native.Mathlib.Omega.{arith}
use lib.ListN.{length, get_or}
use Rattle.binary_office.specs.declared.Step.TheVariants as step
use Rattle.binary_office.specs.Fields.{le16_at}
use Rattle.binary_office.specs.declared.BiffRecord.{BiffRecord}
use Rattle.binary_office.specs.Walk.{Walk, step_at, walk_at, walk}
use Rattle.binary_office.proofs.Headers.{step_end, step_record}
use Rattle.binary_office.proofs.Walks.{record_within, walk_end}
use Rattle.binary_office.proofs.Along.{records_on, ends_on, records_end_lem, end_there, along}

-- the records with ids by their offset and their own id
abbrev pub renamed : (ℕ → ℕ → ℕ) → List BiffRecord → List BiffRecord
renamed new [] = []
renamed new (r ∷ rs) = record { at = r.at; id = new r.at r.id; len = r.len } ∷ renamed new rs

module _ (s d : List ℕ) (size : length d ≡ length s) (new : ℕ → ℕ → ℕ) (Kept : ℕ → Type 0)
    (on : (at id len : ℕ) → Kept at → step_at s at ≡ step.Record id len → Kept (at + 4 + len))
    (whole : (at p : ℕ) → Kept at → step_at s at ≡ step.Fault p → ⊥)
    (fields : (at id len : ℕ) → Kept at → step_at s at ≡ step.Record id len → (Some (new at id) ≡ le16_at d at) × (Some len ≡ le16_at d (at + 2)))
    (rest : (at : ℕ) → Kept at → step_at s at ≡ step.End → (o : ℕ) → at ≤ o → get_or d o 0 ≡ get_or s o 0) where
  abbrev Same : ℕ → Type 0
  Same at = Kept at → ((walk_at d at).records ≡ renamed new (walk_at s at).records) × ((walk_at d at).fault ≡ (walk_at s at).fault)

  same_step : (at id len : ℕ) → Kept at → step_at s at ≡ step.Record id len → step_at d at ≡ step.Record (new at id) len
  same_step at id len k e =
      let m = record_within s at id len e in
      let f = fields at id len k e in
      sym (step_record d at (new at id) len f.0 f.1 (omega arith))

  same_from : (at : ℕ) → at ≤ length s → Same at
  same_from =
      along s Same
      (λ at e k.
      let a = end_there s at e in
      let f = a.few in
      let g : step_at d at ≡ step.End = sym (step_end d at (record { few = omega arith; zeros = λ o h. rest at k e o h ∙ a.zeros o h })) in
      (records_end_lem d at g ∙ sym (ap (renamed new) (records_end_lem s at e)), ap (λ (w : Walk). w.fault) (walk_end d at g ∙ sym (walk_end s at e))))
      (λ at p e k. absurd (whole at p k e))
      (λ at id len e again k.
      let g = same_step at id len k e in
      let rest = again (on at id len k e) in (
        records_on d at (new at id) len g
            ∙ ap (λ (rs : List BiffRecord). record { at = at; id = new at id; len = len } ∷ rs) rest.0
            ∙ sym (ap (renamed new) (records_on s at id len e)),
        ends_on d at (new at id) len g ∙ rest.1 ∙ sym (ends_on s at id len e),
      ))

  pub walk_renamed : Kept 0 → ((walk d).records ≡ renamed new (walk s).records) × ((walk d).fault ≡ (walk s).fault)
  walk_renamed k = same_from 0 (omega arith) k
