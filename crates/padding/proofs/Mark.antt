-- A block of zeros that begins with the bytes left of a message gets the mark behind them.
-- Assumes nothing.
use Rattle.std.proofs.Common.{◌≡◌, ℕ, suc, ◌+◌, ◌-◌, ◌<◌, List, ◌∷◌, ◌++◌, length, drop, set, replicate, refl, ap, ◌∙◌, arith}
use Rattle.std.proofs.Math.ListN.{length-replicate, replicate-append-replicate}
use lib.Seq.{drop_at, set_at}

drop_zeros : (n x : ℕ) → drop n (replicate {A = ℕ} (n + x) 0) ≡ replicate x 0
drop_zeros n x = rw (← (replicate-append-replicate {A = ℕ} n x 0)) (drop_at (replicate n 0) (replicate x 0) n (length-replicate n 0))

pub mark : (rest : List ℕ) → length rest < 64 → set (rest ++ drop (length rest) (replicate 64 0)) (length rest) 128 ≡ rest ++ (128 ∷ replicate (63 - length rest) 0)
mark rest h =
    let k = length rest in
    let n : 64 ≡ k + suc (63 - k) = omega arith in
    let d : drop k (replicate {A = ℕ} 64 0) ≡ 0 ∷ replicate (63 - k) 0 = ap (λ (j : ℕ). drop k (replicate {A = ℕ} j 0)) n ∙ drop_zeros k (suc (63 - k)) in
    rw d (set_at rest 0 (replicate (63 - k) 0) 128 k (refl))
