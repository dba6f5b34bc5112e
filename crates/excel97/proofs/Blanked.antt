-- The zeroed FILEPASS: its id and its body, and nothing else. An offset lies before it, in the id, in the length, in the body, or behind it.
-- Assumes nothing.
use Rattle.std.specs.Prelude.{Some}
use mathlib.Core.Path.{◌≡◌, refl, sym, ◌∙◌}
use mathlib.Core.Bool.{Bool, true, false, ◌&&◌}
use mathlib.Core.List.{List}
use Prim.Native.Nat.{ℕ, ◌+◌, ◌≤◌, ◌<◌}
use native.Mathlib.Omega.{arith}
use borrow.Author.Tests.{le-leb, lt-leb, lt-ltb, le-ltb}
use lib.Dec.{leb, ltb}
use Rattle.laws.proofs.Choice.{either}
use Rattle.laws.proofs.Written.{Written}
use Rattle.binary_office.specs.declared.BiffRecord.{BiffRecord}
use Rattle.excel97.specs.Open.{blanked}
use Rattle.excel97.specs.Steps.{Blanks}

pub never : true ≡ false → ⊥
never e = let z : ◌≡◌ {A = ℕ} 0 1 = cc in go z
  where
    go : ◌≡◌ {A = ℕ} 0 1 → ⊥
    go z = omega arith

-- an offset within two bounds, below the first, at or above the second
module _ (a e o : ℕ) where
  below : o < a → (leb a o && ltb o e) ≡ false
  below h = rw (lt-leb a o h)

  above : e ≤ o → (leb a o && ltb o e) ≡ false
  above h = go (leb a o) (le-ltb o e h)
    where
      go : (t : Bool) {u : Bool} → u ≡ false → (t && u) ≡ false
      go true e = e
      go false e = refl

  between : a ≤ o → o < e → (leb a o && ltb o e) ≡ true
  between h k = rw (le-leb a o h, lt-ltb o e k)

-- the five places
pub by_place_lem : {X : Type 0} (at len o : ℕ) → (o < at → X) → (at ≤ o → o < at + 2 → X) → (at + 2 ≤ o → o < at + 4 → X) → (at + 4 ≤ o → o < at + 4 + len → X)
    → (at + 4 + len ≤ o → X) → X
by_place_lem at len o f g h k l = either at o (λ p. either (at + 2) o (λ q. either (at + 4) o (λ r. either (at + 4 + len) o l (k r)) (h q)) (g p)) f

module _ (r : BiffRecord) (o : ℕ) where
  pub blank_before : o < r.at → blanked (Some r) o ≡ false
  blank_before h = let g : o < r.at + 4 = omega arith in rw (below r.at (r.at + 2) o h, below (r.at + 4) (r.at + 4 + r.len) o g)

  pub blank_id : r.at ≤ o → o < r.at + 2 → blanked (Some r) o ≡ true
  blank_id h k = rw (between r.at (r.at + 2) o h k)

  pub blank_length : r.at + 2 ≤ o → o < r.at + 4 → blanked (Some r) o ≡ false
  blank_length h k = rw (above r.at (r.at + 2) o h, below (r.at + 4) (r.at + 4 + r.len) o k)

  pub blank_body : r.at + 4 ≤ o → o < r.at + 4 + r.len → blanked (Some r) o ≡ true
  blank_body h k = let g : r.at + 2 ≤ o = omega arith in rw (above r.at (r.at + 2) o g, between (r.at + 4) (r.at + 4 + r.len) o h k)

  pub blank_behind : r.at + 4 + r.len ≤ o → blanked (Some r) o ≡ false
  blank_behind h = let g : r.at + 2 ≤ o = omega arith in rw (above r.at (r.at + 2) o g, above (r.at + 4) (r.at + 4 + r.len) o h)

-- zeroing the id and then the body
pub blanks : (r : BiffRecord) (d d₁ d₂ : List ℕ) → Written (λ (o : ℕ). 0) r.at (r.at + 2) d d₁ → Written (λ (o : ℕ). 0) (r.at + 4) (r.at + 4 + r.len) d₁ d₂ → Blanks r d d₂
blanks r d d₁ d₂ v w =
    record {
      same = w.same ∙ v.same;
      zeroed = λ o e.
          by_place_lem r.at r.len o
          (λ h. absurd (never (sym e ∙ blank_before r o h)))
          (λ h k. w.before o (omega arith) ∙ v.inside o h k)
          (λ h k. absurd (never (sym e ∙ blank_length r o h k)))
          (λ h k. w.inside o h k)
          (λ h. absurd (never (sym e ∙ blank_behind r o h)));
      kept = λ o e.
          by_place_lem r.at r.len o
          (λ h. w.before o (omega arith) ∙ v.before o h)
          (λ h k. absurd (never (sym (blank_id r o h k) ∙ e)))
          (λ h k. w.before o k ∙ v.after o h)
          (λ h k. absurd (never (sym (blank_body r o h k) ∙ e)))
          (λ h. w.after o h ∙ v.after o (omega arith));
    }
