-- Numbers of at most five digits: the digits of the places that the number reaches. A number without its last digit reaches the places below.
-- Assumes nothing.
use mathlib.Core.Path.{◌≡◌, sym, ap, ◌∙◌}
use mathlib.Core.List.{List, [], ◌∷◌, ◌++◌}
use Prim.Native.Nat.{ℕ, zero, suc, ◌+◌, ◌/◌, ◌%◌, ◌≤◌, ◌<◌}
use native.Mathlib.Nat.{not-suc-le-zero}
use native.Mathlib.Omega.{arith}
use borrow.Author.Tests.{lt-ltb, le-ltb, le-leb, lt-leb}
use Rattle.laws.proofs.Choice.{taken, left, either}
use Rattle.listing_text.specs.Text.{digits, decimal, placed}

one : (f n : ℕ) → n < 10 → digits (suc f) n ≡ (48 + n) ∷ []
unfolding digits
one f n h = taken _ _ (lt-ltb n 10 h)

more : (f n : ℕ) → 10 ≤ n → digits (suc f) n ≡ digits f (n / 10) ++ ((48 + n % 10) ∷ [])
unfolding digits
more f n h = left _ _ (le-ltb n 10 h)

-- any bound that is enough gives the same
enough : (f g n : ℕ) → n < f → n < g → digits f n ≡ digits g n
enough zero g n h k = absurd (not-suc-le-zero h)
enough (suc f) zero n h k = absurd (not-suc-le-zero k)
enough (suc f) (suc g) n h k = by_size (enough f g (n / 10))
  where
    by_size : (n / 10 < f → n / 10 < g → digits f (n / 10) ≡ digits g (n / 10)) → digits (suc f) n ≡ digits (suc g) n
    by_size again =
        either 10 n (λ l. more f n l ∙ ap (λ (ds : List ℕ). ds ++ ((48 + n % 10) ∷ [])) (again (omega arith) (omega arith)) ∙ sym (more g n l))
        (λ l. one f n l ∙ sym (one g n l))

decimal_one : (n : ℕ) → n < 10 → decimal n ≡ (48 + n % 10) ∷ []
unfolding decimal
decimal_one n h = let e : n % 10 ≡ n = omega arith in rw e (one n n h)

decimal_more : (n : ℕ) → 10 ≤ n → decimal n ≡ decimal (n / 10) ++ ((48 + n % 10) ∷ [])
unfolding decimal
decimal_more n h = more n n h ∙ ap (λ (ds : List ℕ). ds ++ ((48 + n % 10) ∷ [])) (enough n (suc (n / 10)) (n / 10) (omega arith) (omega arith))

none : (n u : ℕ) → n < u → placed n u ≡ []
none n u h = left _ _ (lt-leb u n h)

-- the place u of n / 10 is the place 10 u of n
module _ (n u v : ℕ) (e : n / 10 / u ≡ n / v) (up : u ≤ n / 10 → v ≤ n) (down : n / 10 < u → n < v) where
  shift : placed (n / 10) u ≡ placed n v
  shift =
      either u (n / 10)
      (λ h. taken _ _ (le-leb u (n / 10) h) ∙ rw e (sym (taken _ _ (le-leb v n (up h)))))
      (λ h. none (n / 10) u h ∙ sym (none n v (down h)))

shift_10 : (n : ℕ) → placed (n / 10) 10 ≡ placed n 100
shift_10 n = shift n 10 100 (omega arith) (λ h. omega arith) (λ h. omega arith)

shift_100 : (n : ℕ) → placed (n / 10) 100 ≡ placed n 1000
shift_100 n = shift n 100 1000 (omega arith) (λ h. omega arith) (λ h. omega arith)

shift_1000 : (n : ℕ) → placed (n / 10) 1000 ≡ placed n 10000
shift_1000 n = shift n 1000 10000 (omega arith) (λ h. omega arith) (λ h. omega arith)

first : (n : ℕ) → 10 ≤ n → placed n 10 ≡ (48 + n / 10 % 10) ∷ []
first n h = taken _ _ (le-leb 10 n h)

two : (n : ℕ) → n < 100 → decimal n ≡ placed n 10 ++ ((48 + n % 10) ∷ [])
two n h =
    either 10 n (λ l. decimal_more n l ∙ rw (decimal_one (n / 10) (omega arith), first n l))
    (λ l. decimal_one n l ∙ rw (none n 10 l))

three : (n : ℕ) → n < 1000 → decimal n ≡ placed n 100 ++ placed n 10 ++ ((48 + n % 10) ∷ [])
three n h =
    either 10 n (λ l. decimal_more n l ∙ rw (two (n / 10) (omega arith), shift_10 n, first n l))
    (λ l. decimal_one n l ∙ rw (none n 10 l, none n 100 (omega arith)))

four : (n : ℕ) → n < 10000 → decimal n ≡ placed n 1000 ++ placed n 100 ++ placed n 10 ++ ((48 + n % 10) ∷ [])
four n h =
    either 10 n (λ l. decimal_more n l ∙ rw (three (n / 10) (omega arith), shift_100 n, shift_10 n, first n l))
    (λ l. decimal_one n l ∙ rw (none n 10 l, none n 100 (omega arith), none n 1000 (omega arith)))

pub five : (n : ℕ) → n < 100000 → placed n 10000 ++ placed n 1000 ++ placed n 100 ++ placed n 10 ++ ((48 + n % 10) ∷ []) ≡ decimal n
five n h =
    sym (either 10 n (λ l. decimal_more n l ∙ rw (four (n / 10) (omega arith), shift_1000 n, shift_100 n, shift_10 n, first n l))
    (λ l. decimal_one n l ∙ rw (none n 10 l, none n 100 (omega arith), none n 1000 (omega arith), none n 10000 (omega arith))))
