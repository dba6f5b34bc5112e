-- Bytes in front of zeros: how many count is told by the bytes that do.
-- Assumes nothing.
use Rattle.std.specs.Prelude.{◌≡◌, ℕ, ◌-◌, ◌≤◌, List, ◌++◌, length, take, replicate}
use Rattle.std.proofs.Common.{ap, arith, length-append}
use Rattle.std.proofs.lemmas.List.{length-take, length-replicate}

pub length-front : (bs : List ℕ) (n : ℕ) → n ≤ 15 → bs ≡ take n bs ++ replicate (16 - n) 0 → length (take n bs) ≡ n
length-front bs n h e =
    let l : length bs ≡ length (take n bs ++ replicate (16 - n) 0) = ap length e in
    omega (arith, length-append (take n bs) (replicate (16 - n) 0), length-take n bs, length-replicate {A = ℕ} (16 - n) 0)
