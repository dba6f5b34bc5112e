-- The walk, record by record. Each record moves the offset on by four bytes at the least and not past the end, so the fuel of the definition is
-- always enough. Other proofs open the walk by `walk_end`, `walk_fault` and `walk_record`; the short books alone compute it.
-- Assumes nothing.
use Rattle.std.specs.Prelude.{Option, Some, None}
use Rattle.std.specs.Option.{option_or}
use mathlib.Core.Path.{◌≡◌, refl, sym, ap, subst, ◌∙◌}
use mathlib.Core.List.{List, []}
use Prim.Native.Nat.{ℕ, zero, suc, ◌+◌, ◌^◌, ◌≤◌, ◌<◌}
use native.Mathlib.Nat.{zero-add, add-zero}
use native.Mathlib.Omega.{arith}
use lib.ListN.{length}
use Rattle.binary_office.specs.declared.BiffRecord.{BiffRecord}
use Rattle.binary_office.specs.declared.Step.{Step}
use Rattle.binary_office.specs.declared.Step.TheVariants as step
use Rattle.binary_office.specs.Fields.{le16_at}
use Rattle.binary_office.specs.Walk.{step_at, next_of, Walk, behind, walk_from, walk_at, walk, walked_of}
use Rattle.binary_office.proofs.Headers.{by_step}

module _ (s : List ℕ) where
  -- a record has its id and its length at its offset, and lies within the stream
  module _ (at id len : ℕ) (e : step_at s at ≡ step.Record id len) where
    pub record RecordThere : Type 0 where
      pub id_there : Some id ≡ le16_at s at
      pub len_there : Some len ≡ le16_at s (at + 2)
      pub within : at + 4 + len ≤ length s

    never : (r : Step) → (r ≡ step.Record id len → ◌≡◌ {A = ℕ} 0 1) → r ≡ step.Record id len → RecordThere
    never r f q = absurd (no (f q))
      where
        no : ◌≡◌ {A = ℕ} 0 1 → ⊥
        no z = omega arith

    it_is : (i l : ℕ) → Some i ≡ le16_at s at → Some l ≡ le16_at s (at + 2) → at + 4 + l ≤ length s → step.Record i l ≡ step.Record id len → RecordThere
    it_is i l g k m q =
        let x : i ≡ id = cc in
        let y : l ≡ len = cc in
        record { id_there = ap Some (sym x) ∙ g; len_there = ap Some (sym y) ∙ k; within = omega arith }

    pub record_there : RecordThere
    record_there = by_step s at (λ (r : Step). r ≡ step.Record id len → RecordThere) (λ h. never step.End (λ q. cc)) (never (step.Fault at) (λ q. cc)) it_is e

    pub record_within : at + 4 + len ≤ length s
    record_within = record_there.within

  -- where the next header stands fits a number of the machine, as the offset and the stream's length do
  pub next_fits : (at : ℕ) → at < 2 ^ 64 → length s < 2 ^ 64 → (r : Step) → r ≡ step_at s at → next_of at r < 2 ^ 64
  next_fits at h k step.End e = h
  next_fits at h k (step.Fault p) e = h
  next_fits at h k (step.Record id len) e = let m = record_within at id len (sym e) in omega arith

  -- a fault's place is the header's offset
  pub fault_place : (at p : ℕ) → step_at s at ≡ step.Fault p → p ≡ at
  fault_place at p e = by_step s at (λ (r : Step). r ≡ step.Fault p → p ≡ at) (λ h q. cc) (λ q. cc) (λ id len g k m q. cc) e

  from_end : (f at : ℕ) → step_at s at ≡ step.End → walk_from (suc f) s at ≡ record { records = []; fault = None }
  unfolding walk_from
  from_end f at e = rw (e, walk_from)

  from_fault : (f at p : ℕ) → step_at s at ≡ step.Fault p → walk_from (suc f) s at ≡ record { records = []; fault = Some p }
  unfolding walk_from
  from_fault f at p e = rw (e, walk_from)

  from_record : (f at id len : ℕ) → step_at s at ≡ step.Record id len
      → walk_from (suc f) s at ≡ behind (record { at = at; id = id; len = len }) (walk_from f s (at + 4 + len))
  unfolding walk_from
  from_record f at id len e = rw (e, walk_from)

  no_fuel : (at : ℕ) → at ≤ length s → length s < 0 + at → ⊥
  no_fuel at h k = omega arith

  -- any fuel that is enough gives the same
  enough : (f g at : ℕ) → at ≤ length s → length s < f + at → length s < g + at → walk_from f s at ≡ walk_from g s at
  enough zero g at h k l = absurd (no_fuel at h k)
  enough (suc f) zero at h k l = absurd (no_fuel at h l)
  enough (suc f) (suc g) at h k l = go (step_at s at) refl (enough f g)
    where
      go : (w : Step) → step_at s at ≡ w → ((n : ℕ) → n ≤ length s → length s < f + n → length s < g + n → walk_from f s n ≡ walk_from g s n)
          → walk_from (suc f) s at ≡ walk_from (suc g) s at
      go step.End e again = from_end f at e ∙ sym (from_end g at e)
      go (step.Fault p) e again = from_fault f at p e ∙ sym (from_fault g at p e)
      go (step.Record id len) e again =
          let m : at + 4 + len ≤ length s = record_within at id len e in
          from_record f at id len e
          ∙ ap (behind (record { at = at; id = id; len = len })) (again (at + 4 + len) m (omega arith) (omega arith))
          ∙ sym (from_record g at id len e)

  pub walk_end : (at : ℕ) → step_at s at ≡ step.End → walk_at s at ≡ record { records = []; fault = None }
  unfolding walk_at
  walk_end at e = from_end (length s) at e

  pub walk_fault : (at p : ℕ) → step_at s at ≡ step.Fault p → walk_at s at ≡ record { records = []; fault = Some p }
  unfolding walk_at
  walk_fault at p e = from_fault (length s) at p e

  pub walk_record : (at id len : ℕ) → step_at s at ≡ step.Record id len → walk_at s at ≡ behind (record { at = at; id = id; len = len }) (walk_at s (at + 4 + len))
  unfolding walk_at
  walk_record at id len e =
      let m : at + 4 + len ≤ length s = record_within at id len e in
      from_record (length s) at id len e
      ∙ ap (behind (record { at = at; id = id; len = len })) (enough (length s) (suc (length s)) (at + 4 + len) m (omega arith) (omega arith))

  -- a record takes four bytes at the least
  pub few_records : (at : ℕ) → at ≤ length s → at + length (walk_at s at).records ≤ length s
  few_records at h = go (suc (length s)) at h (omega arith)
    where
      go : (f at : ℕ) → at ≤ length s → length s < f + at → at + length (walk_at s at).records ≤ length s
      go zero at h k = absurd (no_fuel at h k)
      go (suc f) at h k = by_step_lem (step_at s at) refl (go f)
        where
          by_step_lem : (w : Step) → step_at s at ≡ w → ((n : ℕ) → n ≤ length s → length s < f + n → n + length (walk_at s n).records ≤ length s)
              → at + length (walk_at s at).records ≤ length s
          by_step_lem step.End e again = rw (walk_end at e) (omega arith)
          by_step_lem (step.Fault p) e again = rw (walk_fault at p e) (omega arith)
          by_step_lem (step.Record id len) e again =
              let m = record_within at id len e in let left = again (at + 4 + len) m (omega arith) in rw (walk_record at id len e) (omega arith)

  -- what a loop over the walk keeps: it has met n records and perhaps the fault, and w is left
  pub record Counted (w : Walk) (n : ℕ) (fault : Option ℕ) : Type 0 where
    pub counted : n + length w.records ≡ length (walk s).records
    pub ends : option_or w.fault fault ≡ (walk s).fault

  pub counted_none : Counted (walk s) 0 None
  counted_none = record { counted = zero-add (length (walk s).records); ends = none_else (walk s).fault }
    where
      none_else : (o : Option ℕ) → option_or o None ≡ o
      none_else None = refl
      none_else (Some p) = refl

  module _ (w : Walk) (n : ℕ) (fault : Option ℕ) (k : Counted w n fault) where
    pub counted_more : (r : BiffRecord) (left : Walk) → w ≡ behind r left → Counted left (n + 1) fault
    counted_more r left e = more (subst (λ (v : Walk). Counted v n fault) e k)
      where
        more : Counted (behind r left) n fault → Counted left (n + 1) fault
        more k = let c = k.counted in record { counted = omega arith; ends = k.ends }

    pub counted_fault : (p : ℕ) → w ≡ record { records = []; fault = Some p } → Counted (record { records = []; fault = None }) n (Some p)
    counted_fault p e = at_fault (subst (λ (v : Walk). Counted v n fault) e k)
      where
        at_fault : Counted (record { records = []; fault = Some p }) n fault → Counted (record { records = []; fault = None }) n (Some p)
        at_fault k = record { counted = k.counted; ends = k.ends }

    pub counted_all : w ≡ record { records = []; fault = None } → record { records = n; fault = fault } ≡ walked_of (walk s)
    counted_all e = all (subst (λ (v : Walk). Counted v n fault) e k)
      where
        all : Counted (record { records = []; fault = None }) n fault → record { records = n; fault = fault } ≡ walked_of (walk s)
        all k = rw (← k.ends, ← k.counted, add-zero n) refl

    -- so the count of one record more fits a number of the machine
    pub counted_few : (r : BiffRecord) (left : Walk) → w ≡ behind r left → n + 1 ≤ length s
    counted_few r left e =
        let c = (counted_more r left e).counted in let few = few_records 0 (omega arith) in omega arith
