-- The bytes of a number below 2^64 are those of any number that it is the remainder of.
-- Assumes nothing.
use mathlib.Core.Path.{◌≡◌, refl}
use Prim.Native.Nat.{ℕ, ◌+◌, ◌/◌, ◌%◌, ◌^◌}
use lib.ListN.{length}
use lib.Pow.{field, mod-mod-pow}
use Rattle.std.specs.Int.{w64, to_be_bytes, to_le_bytes}
use Rattle.padding.specs.Padding.{be64, le64}

-- a byte of the remainder is the number's
digit : (x i k : ℕ) → x % 2 ^ ((i + 8) + k) / 2 ^ k % 2 ^ 8 ≡ x / 2 ^ k % 2 ^ 8
digit x i k = rw (field x (i + 8) k) (mod-mod-pow (x / 2 ^ k) i 8)

pub be64_mod : (b x : ℕ) → b ≡ x % 2 ^ 64 → be64 b ≡ be64 x
unfolding be64
be64_mod b x e = rw (e, digit x 0 56, digit x 8 48, digit x 16 40, digit x 24 32, digit x 32 24, digit x 40 16, digit x 48 8, mod-mod-pow x 56 8)

pub le64_mod : (b x : ℕ) → b ≡ x % 2 ^ 64 → le64 b ≡ le64 x
unfolding le64
le64_mod b x e = rw (e, digit x 0 56, digit x 8 48, digit x 16 40, digit x 24 32, digit x 32 24, digit x 40 16, digit x 48 8, mod-mod-pow x 56 8)

-- the library's bytes of such a number, in either order
pub be64_of : (b x : ℕ) → b ≡ x % 2 ^ 64 → to_be_bytes w64 b ≡ be64 x
unfolding be64
be64_of b x e = be64_mod b x e

pub le64_of : (b x : ℕ) → b ≡ x % 2 ^ 64 → to_le_bytes w64 b ≡ le64 x
unfolding le64
le64_of b x e = le64_mod b x e

pub length_be64 : (n : ℕ) → length (be64 n) ≡ 8
unfolding be64
length_be64 n = refl

pub length_le64 : (n : ℕ) → length (le64 n) ≡ 8
unfolding le64
length_le64 n = refl
