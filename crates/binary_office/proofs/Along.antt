-- The walk from an offset on: its first record, no record at its end or at a fault, and a proof by steps along it.
-- Assumes nothing.
use mathlib.Core.Path.{◌≡◌, refl, ap}
use mathlib.Core.List.{List, [], ◌∷◌}
use Prim.Native.Nat.{ℕ, zero, suc, ◌+◌, ◌≤◌, ◌<◌}
use native.Mathlib.Omega.{arith}
use lib.ListN.{length}
use Rattle.binary_office.specs.declared.Step.{Step}
use Rattle.binary_office.specs.declared.Step.TheVariants as step
use Rattle.binary_office.specs.Walk.{Walk, step_at, walk_at, end_from, records_end}
use Rattle.binary_office.proofs.Ends.{AtEnd}
use Rattle.binary_office.proofs.Headers.{by_step}
use Rattle.binary_office.proofs.Walks.{record_within, walk_end, walk_fault, walk_record}

module _ (s : List ℕ) where
  module _ (at id len : ℕ) (e : step_at s at ≡ step.Record id len) where
    pub records_on : (walk_at s at).records ≡ record { at = at; id = id; len = len } ∷ (walk_at s (at + 4 + len)).records
    records_on = ap (λ (w : Walk). w.records) (walk_record s at id len e)

    pub ends_on : (walk_at s at).fault ≡ (walk_at s (at + 4 + len)).fault
    ends_on = ap (λ (w : Walk). w.fault) (walk_record s at id len e)

  -- no record is left, at the end or at a fault
  pub records_end_lem : (at : ℕ) → step_at s at ≡ step.End → (walk_at s at).records ≡ []
  records_end_lem at e = ap (λ (w : Walk). w.records) (walk_end s at e)

  pub records_fault : (at p : ℕ) → step_at s at ≡ step.Fault p → (walk_at s at).records ≡ []
  records_fault at p e = ap (λ (w : Walk). w.records) (walk_fault s at p e)

  -- at the walk's end fewer than four bytes are left, and all of them are zero
  pub end_there : (at : ℕ) → step_at s at ≡ step.End → AtEnd s at
  end_there at e = by_step s at (λ (r : Step). r ≡ step.End → AtEnd s at) (λ a q. a) (λ q. absurd (no (cc))) (λ id len g k m q. absurd (no (cc))) e
    where
      no : ◌≡◌ {A = ℕ} 0 1 → ⊥
      no z = omega arith

  -- the records from an offset on end where those behind its record do
  pub end_on : (at id len : ℕ) → step_at s at ≡ step.Record id len → end_from at (walk_at s at).records ≡ end_from (at + 4 + len) (walk_at s (at + 4 + len)).records
  end_on at id len e = ap (end_from at) (records_on at id len e)

  -- a statement of every offset of a walk, proved at its end, at a fault, and at a record from the next header
  pub along : (P : ℕ → Type 0) → ((at : ℕ) → step_at s at ≡ step.End → P at) → ((at p : ℕ) → step_at s at ≡ step.Fault p → P at)
      → ((at id len : ℕ) → step_at s at ≡ step.Record id len → P (at + 4 + len) → P at) → (at : ℕ) → at ≤ length s → P at
  along P ended faulty one at h = go (suc (length s)) at h (omega arith)
    where
      go : (f at : ℕ) → at ≤ length s → length s < f + at → P at
      go zero at h k = absurd (no at h k)
        where
          no : (at : ℕ) → at ≤ length s → length s < 0 + at → ⊥
          no at h k = omega arith
      go (suc f) at h k = by_step (step_at s at) refl (go f)
        where
          by_step : (w : Step) → step_at s at ≡ w → ((n : ℕ) → n ≤ length s → length s < f + n → P n) → P at
          by_step step.End e again = ended at e
          by_step (step.Fault p) e again = faulty at p e
          by_step (step.Record id len) e again = one at id len e (again (at + 4 + len) (record_within s at id len e) (omega arith))

  -- the records from an offset on end there or behind it, and within the stream
  abbrev Between : ℕ → Type 0
  Between at = (at ≤ end_from at (walk_at s at).records) × (end_from at (walk_at s at).records ≤ length s)

  between : (at : ℕ) → at ≤ length s → Between at
  between at h =
      along (λ (k : ℕ). k ≤ length s → Between k)
      (λ k e i. rw (records_end_lem k e) (omega arith, i))
      (λ k p e i. rw (records_fault k p e) (omega arith, i))
      (λ k id len e again i.
      let inside = again (record_within s k id len e) in
      let same = end_on k id len e in
      (omega arith, omega arith))
      at
      h
      h

  pub end_from_lem : (at : ℕ) → at ≤ length s → at ≤ end_from at (walk_at s at).records
  end_from_lem at h = (between at h).0

  pub end_within : records_end s ≤ length s
  end_within = (between 0 (omega arith)).1
