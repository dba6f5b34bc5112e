-- Words of 32 bits, their bytes, and the rotation of words of any width.
-- FIPS 180-4 sections 2.2.2, 3.1 and 3.2; RFC 1321 section 2.
-- Assumes nothing.
use Rattle.std.specs.Prelude.{ℕ, ◌+◌, ◌-◌, ◌*◌, ◌/◌, ◌%◌, ◌^◌, List, [], ◌∷◌, bit_or, slice_index}

-- the sum of words drops the carry: FIPS 180-4 3.2 (2), RFC 1321 2
infixl 30 ◌⊞◌
abbrev pub ◌⊞◌ : ℕ → ℕ → ℕ
◌⊞◌ x y = (x + y) % 2 ^ 32

-- of words of w bits, for 0 ≤ n < w: ROTR n x = (x >> n) ∨ (x << w - n), and ROTL n x = (x << n) ∨ (x >> w - n): FIPS 180-4 3.2 (4), (5)
unfoldable pub rotr : ℕ → ℕ → ℕ → ℕ
rotr w n x = bit_or (x / 2 ^ n) ((x * 2 ^ (w - n)) % 2 ^ w)

unfoldable pub rotl : ℕ → ℕ → ℕ → ℕ
rotl w n x = bit_or ((x * 2 ^ n) % 2 ^ w) (x / 2 ^ (w - n))

-- the word of four bytes, the most significant first: FIPS 180-4 3.1; and the least significant first: RFC 1321 2
abbrev pub from_be : ℕ → ℕ → ℕ → ℕ → ℕ
from_be a b c d = a * 2 ^ 24 + b * 2 ^ 16 + c * 2 ^ 8 + d

abbrev pub from_le : ℕ → ℕ → ℕ → ℕ → ℕ
from_le a b c d = from_be d c b a

-- the words at the four bytes from `at` on
unfoldable pub be32 : List ℕ → ℕ → ℕ
be32 s at = from_be (slice_index s at) (slice_index s (at + 1)) (slice_index s (at + 2)) (slice_index s (at + 3))

unfoldable pub le32 : List ℕ → ℕ → ℕ
le32 s at = from_le (slice_index s at) (slice_index s (at + 1)) (slice_index s (at + 2)) (slice_index s (at + 3))

-- the four bytes of a word, in either order
abbrev pub be_bytes : ℕ → List ℕ
be_bytes x = x / 2 ^ 24 % 256 ∷ x / 2 ^ 16 % 256 ∷ x / 2 ^ 8 % 256 ∷ x % 256 ∷ []

abbrev pub le_bytes : ℕ → List ℕ
le_bytes x = x % 256 ∷ x / 2 ^ 8 % 256 ∷ x / 2 ^ 16 % 256 ∷ x / 2 ^ 24 % 256 ∷ []
