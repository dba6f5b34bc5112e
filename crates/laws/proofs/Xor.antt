-- Exclusive-or with the same number twice gives back the first: digit by digit, from the lowest on. So each cipher that is an exclusive-or undoes itself.
-- Assumes nothing.
use mathlib.Core.Path.{◌≡◌, refl, ap, ◌∙◌}
use Prim.Native.Nat.{ℕ, zero, suc, ◌+◌, ◌*◌, ◌/◌, ◌%◌, ◌<◌}
use native.Mathlib.Nat.{mod-lt, div-add-mod'}
use native.Mathlib.Omega.{arith}
use lib.Arith.{bin_ind}
use lib.Bits.{bit_xor, differ, xor_self, xor_step, xor_shr, xor_mod}

-- on one digit
differ_twice : (a b : ℕ) → a < 2 → b < 2 → differ (bit_xor a b) b ≡ a
differ_twice zero zero h k = refl
differ_twice zero (suc zero) h k = refl
differ_twice zero (suc (suc b)) h k = omega arith
differ_twice (suc zero) zero h k = refl
differ_twice (suc zero) (suc zero) h k = refl
differ_twice (suc zero) (suc (suc b)) h k = omega arith
differ_twice (suc (suc a)) b h k = omega arith

pub xor_twice : (x k : ℕ) → bit_xor (bit_xor x k) k ≡ x
xor_twice =
    bin_ind (λ (x : ℕ). (k : ℕ) → bit_xor (bit_xor x k) k ≡ x) (λ k. xor_self k)
    (λ x again k.
    let high : bit_xor x k / 2 ≡ bit_xor (x / 2) (k / 2) = xor_shr x k 1 in
    let low : bit_xor x k % 2 ≡ bit_xor (x % 2) (k % 2) = xor_mod x k 1 in
    xor_step (bit_xor x k) k
    ∙ ap (λ (h : ℕ). h * 2 + differ (bit_xor x k % 2) (k % 2)) (ap (λ (h : ℕ). bit_xor h (k / 2)) high ∙ again (k / 2))
    ∙ ap (λ (d : ℕ). x / 2 * 2 + d) (ap (λ (d : ℕ). differ d (k % 2)) low ∙ differ_twice (x % 2) (k % 2) (mod-lt x (omega arith)) (mod-lt k (omega arith)))
    ∙ div-add-mod' x 2)
