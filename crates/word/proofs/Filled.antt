-- Two lists one behind the other and zeros behind them, cut: what there is room for of the first, then of the second, then of the zeros.
-- Assumes nothing.
use Rattle.std.proofs.Common.{◌≡◌, refl, sym, ap, ◌∙◌, ℕ, zero, suc, ◌-◌, ◌≤◌, min, length, take, drop, replicate, List, [], ◌∷◌, ◌++◌, arith}
use Rattle.std.proofs.lemmas.List.{take_min, take-replicate, drop-replicate}

take_both : (n : ℕ) (xs ys : List ℕ) → take n (xs ++ ys) ≡ take n xs ++ take (n - length xs) ys
take_both zero [] ys = refl
take_both (suc n) [] ys = let e : suc n - 0 ≡ suc n = omega arith in rw e refl
take_both zero (x ∷ xs) ys = let e : 0 - suc (length xs) ≡ 0 = omega arith in rw e refl
take_both (suc n) (x ∷ xs) ys = let e : suc n - suc (length xs) ≡ n - length xs = omega arith in rw e (ap (λ (l : List ℕ). x ∷ l) (take_both n xs ys))

pub filled : (a b : List ℕ) (n k m : ℕ) → k ≡ min (length a) n → m ≡ min (length b) (n - k)
    → take k a ++ (take m b ++ drop m (drop k (replicate n 0))) ≡ take n (a ++ (b ++ replicate n 0))
filled a b n k m e f =
    sym (take_both n a (b ++ replicate n 0) ∙ ap (λ (l : List ℕ). take n a ++ l) (take_both (n - length a) b (replicate n 0)) ∙ parts)
  where
    first : take n a ≡ take k a
    first = let h : k ≡ min n (length a) = omega arith in rw h (sym (take_min n a))

    second : take (n - length a) b ≡ take m b
    second = let h : m ≡ min (n - length a) (length b) = omega arith in rw h (sym (take_min (n - length a) b))

    zeros : take (n - length a - length b) (replicate {A = ℕ} n 0) ≡ drop m (drop k (replicate n 0))
    zeros = let h : n - length a - length b ≤ n = omega arith in
        let g : n - length a - length b ≡ n - k - m = omega arith in
        take-replicate (n - length a - length b) n 0 h ∙ ap (λ (j : ℕ). replicate {A = ℕ} j 0) g ∙ sym (ap (λ (l : List ℕ). drop m l) (drop-replicate k n 0) ∙ drop-replicate m (n - k) 0)

    parts : take n a ++ (take (n - length a) b ++ take (n - length a - length b) (replicate n 0)) ≡ take k a ++ (take m b ++ drop m (drop k (replicate n 0)))
    parts = rw (first, second, zeros) refl
