-- Bytes to words and back: each order undoes itself, on every word and on every four bytes. A word below 2^32 is its four digits to base 256.
-- Assumes nothing.
use Rattle.std.proofs.Common.{◌≡◌, ℕ, ◌+◌, ◌*◌, ◌/◌, ◌%◌, ◌^◌, ◌<◌, [], ◌∷◌, mod-eq_of_lt, arith, shr-shr, shr_lt}
use lib.Pow.{split}
use Rattle.word.specs.Word.{from_be, from_le, be_bytes, le_bytes}

joined : (d' d c' c₀ c b' b₀ b a₀ x : ℕ) → d' ≡ d → c' ≡ d → c' * 256 + c₀ ≡ c → b' ≡ c → b' * 256 + b₀ ≡ b → b * 256 + a₀ ≡ x → from_be d' c₀ b₀ a₀ ≡ x
joined d' d c' c₀ c b' b₀ b a₀ x g f h e i k = omega arith

-- the word of a word's bytes is the word
pub word_of_be : (x : ℕ) → x < 2 ^ 32 → from_be (x / 2 ^ 24 % 256) (x / 2 ^ 16 % 256) (x / 2 ^ 8 % 256) (x % 256) ≡ x
word_of_be x h =
    let e : x / 2 ^ 8 / 2 ^ 8 ≡ x / 2 ^ 16 = shr-shr x 8 8 in
    let f : x / 2 ^ 16 / 2 ^ 8 ≡ x / 2 ^ 24 = shr-shr x 16 8 in
    let t : x / 2 ^ 24 % 256 ≡ x / 2 ^ 24 = mod-eq_of_lt (shr_lt 8 24 h) in
    let a : x / 2 ^ 8 * 256 + x % 256 ≡ x = split x 8 in
    let b : x / 2 ^ 8 / 2 ^ 8 * 256 + x / 2 ^ 8 % 256 ≡ x / 2 ^ 8 = split (x / 2 ^ 8) 8 in
    let c : x / 2 ^ 16 / 2 ^ 8 * 256 + x / 2 ^ 16 % 256 ≡ x / 2 ^ 16 = split (x / 2 ^ 16) 8 in
    joined (x / 2 ^ 24 % 256) (x / 2 ^ 24) (x / 2 ^ 16 / 2 ^ 8) (x / 2 ^ 16 % 256) (x / 2 ^ 16) (x / 2 ^ 8 / 2 ^ 8) (x / 2 ^ 8 % 256) (x / 2 ^ 8) (x % 256) x t f c e b a

pub word_of_le : (x : ℕ) → x < 2 ^ 32 → from_le (x % 256) (x / 2 ^ 8 % 256) (x / 2 ^ 16 % 256) (x / 2 ^ 24 % 256) ≡ x
word_of_le x h = word_of_be x h

-- the bytes of a word of bytes are the bytes
module _ (a b c d : ℕ) (ha : a < 256) (hb : b < 256) (hc : c < 256) (hd : d < 256) where
  first : from_be a b c d / 2 ^ 24 % 256 ≡ a
  first = omega arith

  second : from_be a b c d / 2 ^ 16 % 256 ≡ b
  second = omega arith

  third : from_be a b c d / 2 ^ 8 % 256 ≡ c
  third = omega arith

  fourth : from_be a b c d % 256 ≡ d
  fourth = omega arith

  pub bytes_of_be : be_bytes (from_be a b c d) ≡ a ∷ b ∷ c ∷ d ∷ []
  bytes_of_be = rw (first, second, third, fourth)

  pub bytes_of_le : le_bytes (from_le d c b a) ≡ d ∷ c ∷ b ∷ a ∷ []
  bytes_of_le = rw (first, second, third, fourth)
