-- Two streams of equal length that agree in every header byte that the walk of the first reaches, but for the id of one record: the walk of the second is the
-- first's with that id changed. An offset lies in one record only, so that no other header is touched by what is written into that record.
-- Assumes nothing.
use Rattle.std.specs.Prelude.{Option, None, Some}
use mathlib.Core.Path.{◌≡◌, sym, ap, ◌∙◌}
use mathlib.Core.Bool.{false}
use mathlib.Core.List.{List}
use Prim.Native.Nat.{ℕ, ◌+◌, ◌≤◌, ◌<◌}
use native.Mathlib.Omega.{arith}
use borrow.Author.Tests.{eq-eqb, ne_eqb}
use lib.Dec.{eqb}
use lib.ListN.{length, get_or}
use Rattle.laws.specs.Choice.{pick}
use Rattle.laws.proofs.Choice.{taken, left, same_or}
use Rattle.binary_office.specs.declared.Step.TheVariants as step
use Rattle.binary_office.specs.Fields.{le16_at}
use Rattle.binary_office.specs.declared.BiffRecord.{BiffRecord}
use Rattle.binary_office.specs.Walk.{step_at, walk, records_end}
use Rattle.binary_office.proofs.Headers.{le16_is, le16_value}
use Rattle.binary_office.proofs.Walks.{record_there, record_within}
use Rattle.binary_office.proofs.Along.{records_end_lem}
use Rattle.binary_office.proofs.Renamed.{renamed, walk_renamed}
use Rattle.file_params.specs.Questions.{le16}
use Rattle.excel97.specs.Open.{record_at, blanked}
use Rattle.excel97.proofs.Records.{Reached, reached_none, reached_on, reached_fault, reached_end, record_here}
use Rattle.excel97.proofs.Blanked.{by_place_lem, blank_before, blank_length, blank_behind}

-- the id of a header, where the record at an offset has a given one
unfoldable pub with_id : (place new : ℕ) → (at id : ℕ) → ℕ
with_id place new at id = pick (eqb at place) new id

module _ (place new at id : ℕ) where
  pub id_given : at ≡ place → with_id place new at id ≡ new
  unfolding with_id
  id_given e = taken new id (eq-eqb at place e)

  pub id_kept : (at ≡ place → ⊥) → with_id place new at id ≡ id
  unfolding with_id
  id_kept n = left new id (ne_eqb at place n)

-- two options that hold one record
one_record : (r t : BiffRecord) (o : Option BiffRecord) → o ≡ Some r → o ≡ Some t → r.at ≡ t.at
one_record r t None e g = cc
one_record r t (Some q) e g = let h : q ≡ r = cc in let k : q ≡ t = cc in ap (λ (x : BiffRecord). x.at) (sym h ∙ k)

module _ (s : List ℕ) (r : BiffRecord) (there : Reached s r.at) (stands : step_at s r.at ≡ step.Record r.id r.len) where
  -- no offset of another record is touched
  pub apart : (at id len : ℕ) → Reached s at → step_at s at ≡ step.Record id len → (at ≡ r.at → ⊥) → (o : ℕ) → at ≤ o → o < at + 4 + len
      → blanked (Some r) o ≡ false
  apart at id len w e n o h k =
      by_place_lem r.at r.len o
      (λ p. blank_before r o p)
      (λ p q. absurd (both o h k p (omega arith)))
      (λ p q. absurd (both o h k (omega arith) (omega arith)))
      (λ p q. absurd (both o h k (omega arith) q))
      (λ p. blank_behind r o p)
    where
      both : (o : ℕ) → at ≤ o → o < at + 4 + len → r.at ≤ o → o < r.at + 4 + r.len → ⊥
      both o h k p q =
          n (one_record (record { at = at; id = id; len = len }) (record { at = r.at; id = r.id; len = r.len }) (record_at (walk s).records o)
          (record_here s at id len w e o h k) (record_here s r.at r.id r.len there stands o p q))

  module _ (d : List ℕ) (size : length d ≡ length s) (new : ℕ) (clean : (walk s).fault ≡ None) (id_there : le16 d r.at ≡ new)
      (own : (at id len : ℕ) → Reached s at → step_at s at ≡ step.Record id len → (o : ℕ) → at ≤ o → o < at + 4 → blanked (Some r) o ≡ false
      → get_or d o 0 ≡ get_or s o 0)
      (rest : (o : ℕ) → records_end s ≤ o → get_or d o 0 ≡ get_or s o 0) where
    module _ (at id len : ℕ) (w : Reached s at) (e : step_at s at ≡ step.Record id len) where
      field_kept : (o : ℕ) → at ≤ o → o + 1 < at + 4 → blanked (Some r) o ≡ false → blanked (Some r) (o + 1) ≡ false → le16 d o ≡ le16 s o
      field_kept o h k b c = rw (own at id len w e o h (omega arith) b, own at id len w e (o + 1) (omega arith) k c)

      length_is : ((o : ℕ) → at + 2 ≤ o → o < at + 4 → blanked (Some r) o ≡ false) → len ≡ le16 d (at + 2)
      length_is f =
          le16_is s (at + 2) len (record_there s at id len e).len_there
          ∙ sym (field_kept (at + 2) (omega arith) (omega arith) (f (at + 2) (omega arith) (omega arith)) (f (at + 2 + 1) (omega arith) (omega arith)))

      here : at ≡ r.at → (with_id r.at new at id ≡ le16 d at) × (len ≡ le16 d (at + 2))
      here q =
          (id_given r.at new at id q ∙ sym id_there ∙ ap (le16 d) (sym q), length_is (λ o h k. blank_length r o (omega arith) (omega arith)))

      other : (at ≡ r.at → ⊥) → (with_id r.at new at id ≡ le16 d at) × (len ≡ le16 d (at + 2))
      other n =
          let f : (o : ℕ) → at ≤ o → o < at + 4 → blanked (Some r) o ≡ false = λ o h k. apart at id len w e n o h (omega arith) in (
            id_kept r.at new at id n ∙ le16_is s at id (record_there s at id len e).id_there
                ∙ sym (field_kept at (omega arith) (omega arith) (f at (omega arith) (omega arith)) (f (at + 1) (omega arith) (omega arith))),
            length_is (λ o h k. f o (omega arith) k),
          )

      fields_there : (Some (with_id r.at new at id) ≡ le16_at d at) × (Some len ≡ le16_at d (at + 2))
      fields_there =
          let m = record_within s at id len e in
          let f = same_or at r.at here other in
          (le16_value d at (with_id r.at new at id) (omega arith) f.0, le16_value d (at + 2) len (omega arith) f.1)

    -- the walk of the second stream is the first's, in which that record has the new id
    pub walk_with_id : ((walk d).records ≡ renamed (with_id r.at new) (walk s).records) × ((walk d).fault ≡ (walk s).fault)
    walk_with_id =
        walk_renamed s d size (with_id r.at new) (Reached s)
        (λ at id len w e. reached_on s at id len w e)
        (λ at p w e. reached_fault s at w p e clean)
        (λ at id len w e. fields_there at id len w e)
        (λ at w e o h. let q = reached_end s at w (records_end_lem s at e) in rest o (omega arith))
        (reached_none s)
