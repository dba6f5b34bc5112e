-- A part of an output that was lent to a method of slices: zeroed.
-- Assumes nothing.
use mathlib.Core.Path.{◌≡◌, ap, ◌∙◌}
use mathlib.Core.List.{List, ◌++◌}
use Prim.Native.Nat.{ℕ, ◌+◌, ◌-◌, ◌≤◌, ◌<◌}
use native.Mathlib.Omega.{arith}
use lib.ListN.{length, get_or, take, drop, replicate}
use Rattle.std.proofs.lemmas.List.{length-replicate, get_or-replicate}
use Rattle.laws.proofs.Written.{Written}
use Rattle.block_keys.proofs.Parts.{written_part, part_size}

module _ (from to : ℕ) (d ys : List ℕ) (order : from ≤ to) (room : to ≤ length d) where
  abbrev back : List ℕ
  back = take from d ++ (ys ++ drop (to - from) (drop from d))

  -- what each byte of the part is, its place counted from the start of the output
  filled : (f : ℕ → ℕ) → length ys ≡ to - from → ((i : ℕ) → i < to - from → get_or ys i 0 ≡ f (from + i)) → Written f from to d back
  filled f size wrote =
      let e : from + (to - from) ≡ to = omega arith in
      rw e at (written_part f from (to - from) d ys (omega arith) size wrote)

  pub zeroed : ys ≡ replicate (length (take (to - from) (drop from d))) 0 → Written (λ (o : ℕ). 0) from to d back
  zeroed e =
      let n = part_size d from (to - from) (omega arith) in
      let g : ys ≡ replicate (to - from) 0 = rw n at e in
      filled (λ (o : ℕ). 0) (ap length g ∙ length-replicate (to - from) 0)
      (λ i k. ap (λ (zs : List ℕ). get_or zs i 0) g ∙ get_or-replicate (to - from) i 0 0 k)
