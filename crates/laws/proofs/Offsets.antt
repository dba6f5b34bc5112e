-- Laws of lists that are given by their offsets: length, element, and one element more.
-- Assumes nothing.
use mathlib.Core.Path.{◌≡◌, refl, sym, ap, ◌∙◌}
use mathlib.Core.List.{List, [], ◌∷◌, ◌++◌}
use Prim.Native.Nat.{ℕ, zero, suc, ◌+◌, ◌<◌, ◌≤◌}
use native.Mathlib.Nat.{add-zero, add-suc, suc-add, not-suc-le-zero, le_of_suc-le-suc}
use native.Mathlib.Numerals.{add-one}
use native.Mathlib.Omega.{arith}
use lib.ListN.{length, get_or, take, set, length-append, get_or-append}
use lib.Seq.{get_or_at, get_or-take, take-suc-set, take_all, length-take-le, ext_get_or}
use Rattle.laws.specs.Offsets.{tabulate, map_at}
use Rattle.laws.proofs.Choice.{either}

module _ {ℓ} {A : Type ℓ} where
  pub length_tabulate : (f : ℕ → A) (n : ℕ) → length (tabulate f n) ≡ n
  unfolding tabulate
  length_tabulate f zero = refl
  length_tabulate f (suc n) = length-append (tabulate f n) (f n ∷ []) ∙ ap (λ (k : ℕ). k + 1) (length_tabulate f n) ∙ add-one n

  pub get_d_tabulate : (f : ℕ → A) (n i : ℕ) (d : A) → i < n → get_or (tabulate f n) i d ≡ f i
  unfolding tabulate
  get_d_tabulate f zero i d h = absurd (not-suc-le-zero h)
  get_d_tabulate f (suc n) i d h =
      either n i (λ k. let e : i ≡ n = omega arith in last i e)
      (λ k. get_or-append (tabulate f n) (f n ∷ []) d i (rw (length_tabulate f n) k) ∙ get_d_tabulate f n i d k)
    where
      last : (i : ℕ) → i ≡ n → get_or (tabulate f n ++ (f n ∷ [])) i d ≡ f i
      last i e = rw e (get_or_at (tabulate f n) (f n) [] d n (length_tabulate f n))

  -- a store of f n at n behind the first n: the first n + 1
  pub tabulate_store : (f : ℕ → A) (w : List A) (n : ℕ) (x : A) → n < length w → take n w ≡ tabulate f n → x ≡ f n
      → take (n + 1) (set w n x) ≡ tabulate f (n + 1)
  unfolding tabulate
  tabulate_store f w n x h e g = rw (add-one n, take-suc-set w n x h, e, g)

  pub length_map_at : (f : ℕ → A → A) (i : ℕ) (xs : List A) → length (map_at f i xs) ≡ length xs
  unfolding map_at
  length_map_at f i [] = refl
  length_map_at f i (x ∷ xs) = ap suc (length_map_at f (suc i) xs)

  pub get_d_map_at : (f : ℕ → A → A) (i : ℕ) (xs : List A) (k : ℕ) (d : A) → k < length xs → get_or (map_at f i xs) k d ≡ f (i + k) (get_or xs k d)
  unfolding map_at
  get_d_map_at f i [] k d h = absurd (not-suc-le-zero h)
  get_d_map_at f i (x ∷ xs) zero d h = rw (add-zero i)
  get_d_map_at f i (x ∷ xs) (suc k) d h = get_d_map_at f (suc i) xs k d (le_of_suc-le-suc h) ∙ ap (λ (j : ℕ). f j (get_or xs k d)) (suc-add i k ∙ sym (add-suc i k))

-- an array written out, byte by byte, is the first bytes of the list that they are taken from
pub heads : (l : List ℕ) (n : ℕ) → n ≤ length l → tabulate (λ (i : ℕ). get_or l i 0) n ≡ take n l
heads l n h =
    let f : ℕ → ℕ = λ i. get_or l i 0 in
    ext_get_or 0 (tabulate f n) (take n l) (length_tabulate f n ∙ sym (length-take-le n l h))
    (λ i k. let m : i < n = rw (length_tabulate f n) at k in get_d_tabulate f n i 0 m ∙ sym (get_or-take n l i 0 m))

pub listed : (l : List ℕ) (n : ℕ) → length l ≡ n → tabulate (λ (i : ℕ). get_or l i 0) n ≡ l
listed l n e = heads l n (omega arith) ∙ take_all n l (omega arith)
