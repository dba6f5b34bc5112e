-- Rotations of words of w bits. A word is a high part above j bits and a low part of j bits; a rotation changes their places,
-- so that each rotation is a sum, each undoes the other, and a shift by w - n may be taken modulo w.
-- Assumes nothing.
use Rattle.std.proofs.Common.{◌≡◌, ℕ, zero, suc, ◌+◌, ◌-◌, ◌*◌, ◌/◌, ◌%◌, ◌^◌, ◌<◌, sym, ap, subst, add-zero, mod-lt, mod-eq_of_lt, mul-one, div-one, arith, pow_pos, pow-add, shr_lt}
use native.Mathlib.Nat.{sub-zero, pow-zero, div-eq_of_lt, mod_self, mul-mod_left}
use lib.Bits.{bit_or, or_zero_r, or_self, or_comm, or_shifted}
use lib.Arith.{digits_lt}
use lib.Pow.{mod-pow-add, shl-shr, high, low, split}
use Rattle.word.specs.Word.{rotl, rotr}

-- the low j bits, moved up by n
kept : (x j n : ℕ) → (x * 2 ^ n) % 2 ^ (j + n) ≡ (x % 2 ^ j) * 2 ^ n
kept x j n = rw (mod-pow-add (x * 2 ^ n) j n, shl-shr x n, mul-mod_left x (2 ^ n), add-zero)

-- a left rotation by n puts the n high bits below the j low ones
pub rotl_sum : (j n x : ℕ) → x < 2 ^ (j + n) → rotl (j + n) n x ≡ (x % 2 ^ j) * 2 ^ n + x / 2 ^ j
unfolding rotl
rotl_sum j n x h =
    let e : j + n - n ≡ j = omega arith in
    let b : x < 2 ^ (n + j) = rw (← (ap (λ (k : ℕ). 2 ^ k) (sum_comm j n))) h in
    rw (kept x j n, e) (or_shifted (x % 2 ^ j) n (x / 2 ^ j) (shr_lt n j b))
  where
    sum_comm : (a b : ℕ) → a + b ≡ b + a
    sum_comm a b = omega arith

-- a right rotation by n puts the n low bits above the j high ones
pub rotr_sum : (j n x : ℕ) → x < 2 ^ (j + n) → rotr (j + n) n x ≡ (x % 2 ^ n) * 2 ^ j + x / 2 ^ n
unfolding rotr
rotr_sum j n x h =
    let e : j + n - n ≡ j = omega arith in
    let s : j + n ≡ n + j = omega arith in
    rw (e, or_comm (x / 2 ^ n), s, kept x n j) (or_shifted (x % 2 ^ n) j (x / 2 ^ n) (shr_lt j n h))

-- a word whose two parts changed places is a word, and its parts change places again to give the first one
abbrev swapped : ℕ → ℕ → ℕ → ℕ
swapped j n x = (x % 2 ^ j) * 2 ^ n + x / 2 ^ j

module _ (j n x : ℕ) (h : x < 2 ^ (j + n)) where
  high_part : x / 2 ^ j < 2 ^ n
  high_part = let s : j + n ≡ n + j = omega arith in shr_lt n j (rw (← s) h)

  swapped_fits : swapped j n x < 2 ^ (j + n)
  swapped_fits = rw pow-add (digits_lt (mod-lt x (pow_pos j)) high_part)

  swapped_twice : swapped n j (swapped j n x) ≡ x
  swapped_twice = rw (low (x % 2 ^ j) n high_part, high (x % 2 ^ j) n high_part) (split x j)

-- rotating right undoes rotating left, and rotating left undoes rotating right
pub rotr_rotl : (j n x : ℕ) → x < 2 ^ (j + n) → rotr (j + n) n (rotl (j + n) n x) ≡ x
rotr_rotl j n x h = rw (rotl_sum j n x h, rotr_sum j n (swapped j n x) (swapped_fits j n x h)) (swapped_twice j n x h)

pub rotl_rotr : (j n x : ℕ) → x < 2 ^ (j + n) → rotl (j + n) n (rotr (j + n) n x) ≡ x
rotl_rotr j n x h =
    let s : j + n ≡ n + j = omega arith in
    let b : x < 2 ^ (n + j) = rw (← s) h in
    let fits : swapped n j x < 2 ^ (j + n) = rw s (swapped_fits n j x b) in
    rw (rotr_sum j n x h, rotl_sum j n (swapped n j x) fits) (swapped_twice n j x b)

-- what the code computes: the other shift's count is taken modulo w, so that a rotation by 0 shifts by 0 twice
pub left_code : (w k x : ℕ) → k < w → x < 2 ^ w → bit_or ((x * 2 ^ k) % 2 ^ w) (x / 2 ^ ((w - k) % w)) ≡ rotl w k x
unfolding rotl
left_code w zero x h b =
    rw (sub-zero w, mod_self w, pow-zero 2, mul-one x, div-one x, mod-eq_of_lt b, div-eq_of_lt b, or_self x, or_zero_r x)
left_code w (suc k) x h b = let l : w - suc k < w = omega arith in rw (mod-eq_of_lt l)

pub right_code : (w k x : ℕ) → k < w → x < 2 ^ w → bit_or (x / 2 ^ k) ((x * 2 ^ ((w - k) % w)) % 2 ^ w) ≡ rotr w k x
unfolding rotr
right_code w zero x h b =
    rw (sub-zero w, mod_self w, pow-zero 2, mul-one x, div-one x, mod-eq_of_lt b, mul-mod_left x (2 ^ w), or_self x, or_zero_r x)
right_code w (suc k) x h b = let l : w - suc k < w = omega arith in rw (mod-eq_of_lt l)

-- the laws for a byte: for every byte and every count from 0 to 7, each rotation undoes the other
module _ (n x : ℕ) (h : n < 8) (b : x < 256) where
  width : 8 - n + n ≡ 8
  width = omega arith

  fits_width : x < 2 ^ (8 - n + n)
  fits_width = subst (λ (w : ℕ). x < 2 ^ w) (sym width) b

  pub byte_back : rotr 8 n (rotl 8 n x) ≡ x
  byte_back = subst (λ (w : ℕ). rotr w n (rotl w n x) ≡ x) width (rotr_rotl (8 - n) n x fits_width)

  pub byte_forth : rotl 8 n (rotr 8 n x) ≡ x
  byte_forth = subst (λ (w : ℕ). rotl w n (rotr w n x) ≡ x) width (rotl_rotr (8 - n) n x fits_width)
