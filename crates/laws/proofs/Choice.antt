-- Laws of the choice by a test. `stop` and `skip` answer a chain of choices from its top: the tests before the one that held are skipped.
-- Assumes nothing.
use mathlib.Core.Path.{◌≡◌, refl, sym, ◌∙◌}
use mathlib.Core.Bool.{Bool, true, false, ◌&&◌, ◌||◌}
use Prim.Native.Nat.{ℕ, ◌≤◌, ◌<◌}
use native.Mathlib.Decide.{dec_le, ℕ_discrete}
use native.Mathlib.Nat.{lt_of_not-le}
use lib.Dec.{leb}
use borrow.Author.Tests.{le-leb, lt-leb, leb-true}
use Rattle.laws.specs.Choice.{pick, within}

module _ {ℓ} {X : Type ℓ} where
  pub taken : {t : Bool} (x y : X) → t ≡ true → pick t x y ≡ x
  unfolding pick
  taken x y e = rw (e, pick)

  pub left : {t : Bool} (x y : X) → t ≡ false → pick t x y ≡ y
  unfolding pick
  left x y e = rw (e, pick)

  pub stop : {t : Bool} {x : X} (y : X) → t ≡ true → x ≡ pick t x y
  stop {x = x} y e = sym (taken x y e)

  pub skip : {t : Bool} {y z : X} (x : X) → t ≡ false → z ≡ y → z ≡ pick t x y
  skip {y = y} x e h = h ∙ sym (left x y e)

  -- one order or the other
  pub either : (a b : ℕ) → (a ≤ b → X) → (b < a → X) → X
  either a b f g = elim (dec_le a b) [ yes h ↦ f h | no h ↦ g (lt_of_not-le h) ]

  -- equal or not
  pub same_or : (a b : ℕ) → (a ≡ b → X) → ((a ≡ b → ⊥) → X) → X
  same_or a b f g = elim (ℕ_discrete a b) [ yes h ↦ f h | no h ↦ g h ]

pub within_yes : (lo hi x : ℕ) → lo ≤ x → x ≤ hi → within lo hi x ≡ true
within_yes lo hi x a b = rw (le-leb lo x a, le-leb x hi b)

pub within_low : (lo hi x : ℕ) → x < lo → within lo hi x ≡ false
within_low lo hi x a = rw (lt-leb lo x a)

pub within_high : (lo hi x : ℕ) → hi < x → within lo hi x ≡ false
within_high lo hi x a = go (leb lo x) (lt-leb x hi a)
  where
    go : (t : Bool) {u : Bool} → u ≡ false → (t && u) ≡ false
    go true e = e
    go false e = refl

-- both of two tests
pub and_left : (t u : Bool) → (t && u) ≡ true → t ≡ true
and_left true u e = refl
and_left false u e = e

pub and_right : (t u : Bool) → (t && u) ≡ true → u ≡ true
and_right true u e = e
and_right false true e = refl
and_right false false e = e

-- one of two tests
pub or_else : (t u : Bool) → (t || u) ≡ true → t ≡ false → u ≡ true
or_else t u e f = rw f at e

pub or_left : (t u : Bool) → t ≡ true → (t || u) ≡ true
or_left t u e = rw e

pub or_right : (t u : Bool) → u ≡ true → (t || u) ≡ true
or_right true u e = refl
or_right false u e = e

pub within_from : (lo hi x : ℕ) → within lo hi x ≡ true → lo ≤ x
within_from lo hi x e = leb-true lo x (and_left (leb lo x) (leb x hi) e)

pub within_to : (lo hi x : ℕ) → within lo hi x ≡ true → x ≤ hi
within_to lo hi x e = leb-true x hi (and_right (leb lo x) (leb x hi) e)
