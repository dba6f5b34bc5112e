-- Fields, and what stands at an offset, by the tests on the way: as the code answers them, and what each answer tells.
-- Assumes nothing.
use Rattle.std.specs.Prelude.{Some, None, Option}
use mathlib.Core.Path.{◌≡◌, refl, sym, ap, ◌∙◌}
use mathlib.Core.Bool.{Bool, true, false}
use mathlib.Core.List.{List}
use Prim.Native.Nat.{ℕ, ◌+◌, ◌*◌, ◌^◌, ◌≤◌, ◌<◌, min}
use native.Mathlib.Omega.{arith}
use lib.ListN.{length, get_or, take, length-take}
use lib.Seq.{get_or-take}
use borrow.Author.Tests.{le-leb, lt-leb}
use Rattle.laws.proofs.Choice.{stop, skip, either}
use Rattle.word.specs.Word.{le32, from_le}
use Rattle.binary_office.specs.declared.Step.{Step}
use Rattle.binary_office.specs.declared.Step.TheVariants as step
use Rattle.binary_office.specs.Fields.{le16_at, le32_at}
use Rattle.binary_office.specs.Walk.{ended, by_id, step_at}
use Rattle.binary_office.proofs.Ends.{AtEnd, ended_means, means_ended, not_ended}

module _ (s : List ℕ) (at : ℕ) where
  pub le16_short : length s < at + 2 → None ≡ le16_at s at
  unfolding le16_at
  le16_short h = skip _ (lt-leb (at + 2) (length s) h) refl

  pub le16_value : (v : ℕ) → at + 2 ≤ length s → v ≡ get_or s at 0 + get_or s (at + 1) 0 * 2 ^ 8 → Some v ≡ le16_at s at
  unfolding le16_at
  le16_value v h e = rw e (stop _ (le-leb (at + 2) (length s) h))

  -- a field that is there lies within
  pub le16_within : (v : ℕ) → Some v ≡ le16_at s at → at + 2 ≤ length s
  le16_within v e = either (at + 2) (length s) (λ h. h) (λ h. let z : ◌≡◌ {A = ℕ} 0 1 = cc (le16_short h) in omega arith)

  pub le16_is : (v : ℕ) → Some v ≡ le16_at s at → v ≡ get_or s at 0 + get_or s (at + 1) 0 * 2 ^ 8
  le16_is v e = let there = le16_value (get_or s at 0 + get_or s (at + 1) 0 * 2 ^ 8) (le16_within v e) refl in cc

  -- and one that is not there is cut off
  pub le16_cut : None ≡ le16_at s at → length s < at + 2
  le16_cut e =
      either (at + 2) (length s) (λ h. let v = le16_value (get_or s at 0 + get_or s (at + 1) 0 * 2 ^ 8) h refl in let z : ◌≡◌ {A = ℕ} 0 1 = cc in omega arith) (λ h. h)

  pub le32_short : length s < at + 4 → None ≡ le32_at s at
  unfolding le32_at
  le32_short h = skip _ (lt-leb (at + 4) (length s) h) refl

  pub le32_value : (v : ℕ) → at + 4 ≤ length s → v ≡ from_le (get_or s at 0) (get_or s (at + 1) 0) (get_or s (at + 2) 0) (get_or s (at + 3) 0) → Some v ≡ le32_at s at
  unfolding le32_at le32
  le32_value v h e = rw e (stop _ (le-leb (at + 4) (length s) h))

-- what stands at an offset
module _ (s : List ℕ) (at : ℕ) where
  pub step_end : AtEnd s at → step.End ≡ step_at s at
  unfolding step_at
  step_end a = stop _ (means_ended s at a)

  module _ (inside : AtEnd s at → ⊥) where
    go_on : (r : Step) → r ≡ by_id s at (le16_at s at) → r ≡ step_at s at
    unfolding step_at
    go_on r e = skip _ (not_ended s at inside) e

    step_no_id : None ≡ le16_at s at → step.Fault at ≡ step_at s at
    step_no_id e = go_on (step.Fault at) (rw (← e))

    step_no_len : (id : ℕ) → Some id ≡ le16_at s at → None ≡ le16_at s (at + 2) → step.Fault at ≡ step_at s at
    step_no_len id e g = go_on (step.Fault at) (rw (← e, ← g))

    -- fewer than four bytes, and one of them is not zero
    pub step_short : length s < at + 4 → step.Fault at ≡ step_at s at
    step_short h = by_id_lem (le16_at s at) refl
      where
        by_id_lem : (w : (Option ℕ)) → w ≡ le16_at s at → step.Fault at ≡ step_at s at
        by_id_lem None e = step_no_id e
        by_id_lem (Some id) e = step_no_len id e (le16_short s (at + 2) (omega arith))

  -- a header that is there
  module _ (id len : ℕ) (e : Some id ≡ le16_at s at) (g : Some len ≡ le16_at s (at + 2)) where
    not_end : AtEnd s at → ⊥
    not_end a = let m = le16_within s (at + 2) len g in let f = a.few in omega arith

    pub step_record : at + 4 + len ≤ length s → step.Record id len ≡ step_at s at
    step_record h = go_on not_end (step.Record id len) (rw (← e, ← g) (stop _ (le-leb (at + 4 + len) (length s) h)))

    pub step_past : length s < at + 4 + len → step.Fault at ≡ step_at s at
    step_past h = go_on not_end (step.Fault at) (rw (← e, ← g) (skip _ (lt-leb (at + 4 + len) (length s) h) refl))

  -- a statement of what stands at an offset, by the tests on the way to it
  pub by_step : (P : Step → Type 0) → (AtEnd s at → P step.End) → P (step.Fault at)
      → ((id len : ℕ) → Some id ≡ le16_at s at → Some len ≡ le16_at s (at + 2) → at + 4 + len ≤ length s → P (step.Record id len))
      → P (step_at s at)
  by_step P ends faulty one = by_end (ended s at) refl
    where
      by_len : (AtEnd s at → ⊥) → (id : ℕ) → Some id ≡ le16_at s at → (w : (Option ℕ)) → w ≡ le16_at s (at + 2) → P (step_at s at)
      by_len n id e None g = rw (← (step_no_len n id e g)) faulty
      by_len n id e (Some len) g =
          either (at + 4 + len) (length s) (λ m. rw (← (step_record id len e g m)) (one id len e g m)) (λ m. rw (← (step_past id len e g m)) faulty)

      by_id_lem : (AtEnd s at → ⊥) → (w : (Option ℕ)) → w ≡ le16_at s at → P (step_at s at)
      by_id_lem n None e = rw (← (step_no_id n e)) faulty
      by_id_lem n (Some id) e = by_len n id e (le16_at s (at + 2)) refl

      by_end : (t : Bool) → ended s at ≡ t → P (step_at s at)
      by_end true e = let a = ended_means s at e in rw (← (step_end a)) (ends a)
      by_end false e = by_id_lem (λ a. let z : true ≡ false = sym (means_ended s at a) ∙ e in no z) (le16_at s at) refl
        where
          no : true ≡ false → ⊥
          no z = let y : ◌≡◌ {A = ℕ} 0 1 = cc in omega arith

-- the fields of a list's first bytes: the list's own where they lie within them, and else cut short
module _ (s : List ℕ) (n at : ℕ) where
  first_length : length (take n s) ≡ min n (length s)
  first_length = length-take n s

  byte : (i : ℕ) → i < n → get_or (take n s) i 0 ≡ get_or s i 0
  byte i h = get_or-take n s i 0 h

  pub le16_first : at + 2 ≤ n → le16_at (take n s) at ≡ le16_at s at
  le16_first h =
      let first = first_length in
      either (at + 2) (length s)
      (λ k.
      sym (le16_value (take n s) at _ (omega arith) refl) ∙ ap Some (rw (byte at (omega arith), byte (at + 1) (omega arith))) ∙ le16_value s at _ k refl)
      (λ k. sym (le16_short (take n s) at (omega arith)) ∙ le16_short s at k)

  pub le16_beyond : n < at + 2 → None ≡ le16_at (take n s) at
  le16_beyond h = let first = first_length in le16_short (take n s) at (omega arith)

  pub le32_first : at + 4 ≤ n → le32_at (take n s) at ≡ le32_at s at
  le32_first h =
      let first = first_length in
      either (at + 4) (length s)
      (λ k.
      sym (le32_value (take n s) at _ (omega arith) refl)
      ∙ ap Some (rw (byte at (omega arith), byte (at + 1) (omega arith), byte (at + 2) (omega arith), byte (at + 3) (omega arith)))
      ∙ le32_value s at _ k refl)
      (λ k. sym (le32_short (take n s) at (omega arith)) ∙ le32_short s at k)

  pub le32_beyond : n < at + 4 → None ≡ le32_at (take n s) at
  le32_beyond h = let first = first_length in le32_short (take n s) at (omega arith)
