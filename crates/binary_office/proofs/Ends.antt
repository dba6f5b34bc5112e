-- The end of the walk, by bytes: fewer than four are left, and none of them is other than zero. The one file that opens `ended`; the short books compute it.
-- Assumes nothing.
use mathlib.Core.Path.{◌≡◌, refl, sym, ap, ◌∙◌}
use mathlib.Core.Bool.{Bool, true, false}
use mathlib.Core.List.{List, [], ◌∷◌}
use Prim.Native.Nat.{ℕ, zero, suc, ◌+◌, ◌-◌, ◌≤◌, ◌<◌}
use native.Mathlib.Omega.{arith}
use borrow.Author.Tests.{eqb-true, eq-eqb, le-leb, lt-leb}
use lib.Dec.{eqb, leb}
use lib.ListN.{length, get_or, drop, length-drop, length-replicate, get_or-eq_default}
use lib.Seq.{get_or-drop}
use Rattle.laws.specs.Choice.{within}
use Rattle.laws.proofs.Choice.{either, or_else, or_left, or_right, and_left, and_right, within_yes, within_to}
use Rattle.binary_office.specs.Walk.{zero_bytes, all_zero, padding_max, is_padding, ended}

-- bytes that are all zero, one by one
zero_bytes_lem : (bs : List ℕ) → all_zero bs ≡ true → (i : ℕ) → get_or bs i 0 ≡ 0
zero_bytes_lem [] e i = refl
zero_bytes_lem (b ∷ bs) e zero = eqb-true b 0 (and_left (eqb b 0) (all_zero bs) e)
zero_bytes_lem (b ∷ bs) e (suc i) = zero_bytes_lem bs (and_right (eqb b 0) (all_zero bs) e) i

bytes_zero : (bs : List ℕ) → ((i : ℕ) → get_or bs i 0 ≡ 0) → all_zero bs ≡ true
bytes_zero [] f = refl
bytes_zero (b ∷ bs) f = rw (eq-eqb b 0 (f 0)) (bytes_zero bs (λ i. f (suc i)))

-- so many zeros are padding
pub zeros_padding : (n : ℕ) → 1 ≤ n → n ≤ 3 → is_padding (zero_bytes n) ≡ true
zeros_padding n a b =
    let size = length-replicate {A = ℕ} n 0 in
    let some : within 1 padding_max (length (zero_bytes n)) ≡ true = within_yes 1 padding_max (length (zero_bytes n)) (omega arith) (omega arith) in
    rw (some, all n)
  where
    all : (n : ℕ) → all_zero (zero_bytes n) ≡ true
    all zero = refl
    all (suc n) = all n

module _ (s : List ℕ) (at : ℕ) where
  pub record AtEnd : Type 0 where
    pub few : length s < at + 4
    pub zeros : (o : ℕ) → at ≤ o → get_or s o 0 ≡ 0

  left_over : length (drop at s) ≡ length s - at
  left_over = length-drop at s

  byte : (i : ℕ) → get_or (drop at s) i 0 ≡ get_or s (at + i) 0
  byte i = get_or-drop at s i 0

  past_end : length s ≤ at → AtEnd
  past_end h = record { few = omega arith; zeros = λ o k. get_or-eq_default s 0 (omega arith) }

  -- the two remainders that the walk ends at
  pub nothing_ends : drop at s ≡ [] → AtEnd
  nothing_ends e = let l = left_over in let n = ap (λ (bs : List ℕ). length bs) e in past_end (omega arith)

  pub zero_ends : length s < at + 4 → all_zero (drop at s) ≡ true → AtEnd
  zero_ends h e =
      record {
        few = h;
        zeros = λ o k.
            let place : at + (o - at) ≡ o = omega arith in
            ap (λ (n : ℕ). get_or s n 0) (sym place) ∙ sym (byte (o - at)) ∙ zero_bytes_lem (drop at s) e (o - at);
      }

  pub ends_zero : AtEnd → all_zero (drop at s) ≡ true
  ends_zero a = bytes_zero (drop at s) (λ i. byte i ∙ a.zeros (at + i) (omega arith))

  pub padding_ends : is_padding (drop at s) ≡ true → AtEnd
  padding_ends e =
      let l = left_over in
      let most = within_to 1 padding_max (length (drop at s)) (and_left (within 1 padding_max (length (drop at s))) (all_zero (drop at s)) e) in
      zero_ends (omega arith) (and_right (within 1 padding_max (length (drop at s))) (all_zero (drop at s)) e)

  -- what it means that the walk is at its end, both ways
  pub ended_means : ended s at ≡ true → AtEnd
  unfolding ended
  ended_means e = either (length s) at past_end (λ h. padding_ends (or_else (leb (length s) at) (is_padding (drop at s)) e (lt-leb (length s) at h)))

  pub padding_there : at < length s → AtEnd → is_padding (drop at s) ≡ true
  padding_there h a =
      let l = left_over in
      let f = a.few in
      let some : within 1 padding_max (length (drop at s)) ≡ true = within_yes 1 padding_max (length (drop at s)) (omega arith) (omega arith) in
      rw (some, ends_zero a)

  pub means_ended : AtEnd → ended s at ≡ true
  unfolding ended
  means_ended a =
      either (length s) at
      (λ h. or_left (leb (length s) at) (is_padding (drop at s)) (le-leb (length s) at h))
      (λ h. or_right (leb (length s) at) (is_padding (drop at s)) (padding_there h a))

  pub not_ended : (AtEnd → ⊥) → ended s at ≡ false
  not_ended f = go (ended s at) refl
    where
      go : (t : Bool) → ended s at ≡ t → ended s at ≡ false
      go true e = absurd (f (ended_means e))
      go false e = e
