-- Bytes put one part after the other: parts that touch are their bytes put as one.
-- Assumes nothing.
use mathlib.Core.Path.{◌≡◌, sym, ap, ◌∙◌}
use mathlib.Core.List.{List, ◌++◌}
use Prim.Native.Nat.{ℕ, ◌+◌, ◌-◌, ◌≤◌}
use native.Mathlib.Omega.{arith}
use lib.ListN.{length, get_or, length-append, get_or-append}
use lib.Seq.{get_or-append-add}
use Rattle.laws.proofs.Written.{written_join}
use Rattle.block_keys.proofs.Parts.{written_by}
use Rattle.sealing.specs.Steps.{Put}

pub put_join : (a b : List ℕ) (at : ℕ) (d d₁ d₂ : List ℕ) → Put a at d d₁ → Put b (at + length a) d₁ d₂ → Put (a ++ b) at d d₂
put_join a b at d d₁ d₂ v w =
    let l = length-append a b in
    let e : at + length (a ++ b) ≡ at + length a + length b = omega arith in
    rw e
    (written_join f at (at + length a) (at + length a + length b) d d₁ d₂ (omega arith) (omega arith)
    (written_by (λ (o : ℕ). get_or a (o - at) 0) f at (at + length a) d d₁ (λ i h k. sym (get_or-append a b 0 (i - at) (omega arith))) v)
    (written_by (λ (o : ℕ). get_or b (o - (at + length a)) 0) f (at + length a) (at + length a + length b) d₁ d₂ (λ i h k. sym (second i h)) w))
  where
    f : ℕ → ℕ
    f o = get_or (a ++ b) (o - at) 0

    second : (i : ℕ) → at + length a ≤ i → f i ≡ get_or b (i - (at + length a)) 0
    second i h =
        let q : i - at ≡ length a + (i - (at + length a)) = omega arith in
        ap (λ (j : ℕ). get_or (a ++ b) j 0) q ∙ get_or-append-add a b (i - (at + length a)) 0

-- the same, for a part that starts at an offset which is the first one's end
pub put_on : (a b : List ℕ) (at next : ℕ) (d d₁ d₂ : List ℕ) → next ≡ at + length a → Put a at d d₁ → Put b next d₁ d₂ → Put (a ++ b) at d d₂
put_on a b at next d d₁ d₂ e v w = put_join a b at d d₁ d₂ v (rw e at w)

-- bytes put are put by any name
pub put_same : (a b : List ℕ) (at : ℕ) (d d₁ : List ℕ) → a ≡ b → Put a at d d₁ → Put b at d d₁
put_same a b at d d₁ e v = rw e at v
