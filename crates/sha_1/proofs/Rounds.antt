-- The rounds: which function and constant a round has, and one round more.
-- Assumes nothing.
use mathlib.Core.Path.{◌≡◌, refl, ap, ◌∙◌}
use mathlib.Core.List.{List}
use Prim.Native.Nat.{ℕ, ◌+◌, ◌≤◌, ◌<◌}
use native.Mathlib.Numerals.{add-one}
use native.Mathlib.Omega.{arith}
use lib.ListN.{get_or}
use borrow.Author.Tests.{lt-ltb, le-ltb}
use Rattle.laws.proofs.Choice.{taken, left}
use Rattle.sha_1.specs.declared.State.{State}
use Rattle.sha_1.specs.Sha1.{ch, parity, maj, f, k, turned, round, rounds}

module _ (t x y z : ℕ) where
  pub f_ch : t < 20 → f t x y z ≡ ch x y z
  unfolding f
  f_ch h = taken _ _ (lt-ltb t 20 h)

  pub f_parity : 20 ≤ t → t < 40 → f t x y z ≡ parity x y z
  unfolding f
  f_parity g h = left _ _ (le-ltb t 20 g) ∙ taken _ _ (lt-ltb t 40 h)

  pub f_maj : 40 ≤ t → t < 60 → f t x y z ≡ maj x y z
  unfolding f
  f_maj g h = left _ _ (le-ltb t 20 (omega arith)) ∙ left _ _ (le-ltb t 40 g) ∙ taken _ _ (lt-ltb t 60 h)

  pub f_last : 60 ≤ t → f t x y z ≡ parity x y z
  unfolding f
  f_last g = left _ _ (le-ltb t 20 (omega arith)) ∙ left _ _ (le-ltb t 40 (omega arith)) ∙ left _ _ (le-ltb t 60 g)

module _ (t : ℕ) where
  pub k_ch : t < 20 → k t ≡ 0x5a827999
  unfolding k
  k_ch h = taken _ _ (lt-ltb t 20 h)

  pub k_parity : 20 ≤ t → t < 40 → k t ≡ 0x6ed9eba1
  unfolding k
  k_parity g h = left _ _ (le-ltb t 20 g) ∙ taken _ _ (lt-ltb t 40 h)

  pub k_maj : 40 ≤ t → t < 60 → k t ≡ 0x8f1bbcdc
  unfolding k
  k_maj g h = left _ _ (le-ltb t 20 (omega arith)) ∙ left _ _ (le-ltb t 40 g) ∙ taken _ _ (lt-ltb t 60 h)

  pub k_last : 60 ≤ t → k t ≡ 0xca62c1d6
  unfolding k
  k_last g = left _ _ (le-ltb t 20 (omega arith)) ∙ left _ _ (le-ltb t 40 (omega arith)) ∙ left _ _ (le-ltb t 60 g)

-- a round's result, where the value before it is that after t rounds
pub one_more : (w : List ℕ) (u v r : State) (t fₜ kₜ : ℕ) → v ≡ rounds w u t → fₜ ≡ f t v.h1 v.h2 v.h3 → kₜ ≡ k t → r ≡ turned v fₜ kₜ (get_or w t 0)
    → r ≡ rounds w u (t + 1)
unfolding rounds
one_more w u v r t fₜ kₜ e g h q = rw add-one (q ∙ rw (g, h) (ap (λ (s : State). round t (get_or w t 0) s) e))

pub none_yet : (w : List ℕ) (v : State) → v ≡ rounds w v 0
unfolding rounds
none_yet w v = refl
