-- Lists given by their offsets.
-- Assumes nothing.
use Rattle.std.specs.Prelude.{ℕ, zero, suc, List, [], ◌∷◌, ◌++◌}

module _ {ℓ} {A : Type ℓ} where
  -- f 0, f 1, .., f (n - 1)
  unfoldable pub tabulate : (ℕ → A) → ℕ → List A
  tabulate f zero = []
  tabulate f (suc n) = tabulate f n ++ (f n ∷ [])

  -- f of each element and its offset, the first element's being i
  unfoldable pub map_at : (ℕ → A → A) → ℕ → List A → List A
  map_at f i [] = []
  map_at f i (x ∷ xs) = f i x ∷ map_at f (suc i) xs
