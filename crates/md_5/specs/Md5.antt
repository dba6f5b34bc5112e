-- MD5: RFC 1321, for messages of whole bytes.
-- Assumes nothing.
use Rattle.std.specs.Prelude.{ℕ, zero, suc, ◌+◌, ◌-◌, ◌*◌, ◌/◌, ◌%◌, ◌^◌, List, [], ◌∷◌, ◌++◌, ltb, get_or}
use Rattle.std.specs.Int.Bits.{bit_and, bit_or, bit_xor}
use Rattle.laws.specs.Choice.{pick}
use Rattle.laws.specs.Offsets.{tabulate}
use Rattle.word.specs.Word.{◌⊞◌, rotl, le32, le_bytes}
use Rattle.padding.specs.Padding.{hash, le64}
use Rattle.md_5.specs.declared.State.{State}

-- section 2: the complement of a word
abbrev pub complement : ℕ → ℕ
complement x = 2 ^ 32 - 1 - x

-- 3.3: the words A, B, C, D at the start
abbrev pub start : State
start = record { a = 0x67452301; b = 0xefcdab89; c = 0x98badcfe; d = 0x10325476 }

-- 3.4: the auxiliary functions F, G, H and I
abbrev pub aux_F : ℕ → ℕ → ℕ → ℕ
aux_F x y z = bit_or (bit_and x y) (bit_and (complement x) z)

abbrev pub aux_G : ℕ → ℕ → ℕ → ℕ
aux_G x y z = bit_or (bit_and x z) (bit_and y (complement z))

abbrev pub aux_H : ℕ → ℕ → ℕ → ℕ
aux_H x y z = bit_xor (bit_xor x y) z

abbrev pub aux_I : ℕ → ℕ → ℕ → ℕ
aux_I x y z = bit_xor y (bit_or x (complement z))

-- the operations of the four rounds, numbered on from 0: the function of each
abbrev pub mixed : ℕ → ℕ → ℕ → ℕ → ℕ
mixed t x y z = pick (ltb t 16) (aux_F x y z) (pick (ltb t 32) (aux_G x y z) (pick (ltb t 48) (aux_H x y z) (aux_I x y z)))

-- which word of the block it adds, [abcd k s i]'s k
abbrev pub order : List ℕ
order =
    0 ∷ 1 ∷ 2 ∷ 3 ∷ 4 ∷ 5 ∷ 6 ∷ 7 ∷ 8 ∷ 9 ∷ 10 ∷ 11 ∷ 12 ∷ 13 ∷ 14 ∷ 15
    ∷ 1 ∷ 6 ∷ 11 ∷ 0 ∷ 5 ∷ 10 ∷ 15 ∷ 4 ∷ 9 ∷ 14 ∷ 3 ∷ 8 ∷ 13 ∷ 2 ∷ 7 ∷ 12
    ∷ 5 ∷ 8 ∷ 11 ∷ 14 ∷ 1 ∷ 4 ∷ 7 ∷ 10 ∷ 13 ∷ 0 ∷ 3 ∷ 6 ∷ 9 ∷ 12 ∷ 15 ∷ 2
    ∷ 0 ∷ 7 ∷ 14 ∷ 5 ∷ 12 ∷ 3 ∷ 10 ∷ 1 ∷ 8 ∷ 15 ∷ 6 ∷ 13 ∷ 4 ∷ 11 ∷ 2 ∷ 9 ∷ []

-- by how much it rotates, s: four counts in turn, for each round
abbrev pub shifts : List ℕ
shifts =
    7 ∷ 12 ∷ 17 ∷ 22
    ∷ 5 ∷ 9 ∷ 14 ∷ 20
    ∷ 4 ∷ 11 ∷ 16 ∷ 23
    ∷ 6 ∷ 10 ∷ 15 ∷ 21 ∷ []

-- the table T: the integer part of 4294967296 times abs (sin i), i in radians, from 1 to 64
abbrev pub table : List ℕ
table =
    0xd76aa478 ∷ 0xe8c7b756 ∷ 0x242070db ∷ 0xc1bdceee
    ∷ 0xf57c0faf ∷ 0x4787c62a ∷ 0xa8304613 ∷ 0xfd469501
    ∷ 0x698098d8 ∷ 0x8b44f7af ∷ 0xffff5bb1 ∷ 0x895cd7be
    ∷ 0x6b901122 ∷ 0xfd987193 ∷ 0xa679438e ∷ 0x49b40821
    ∷ 0xf61e2562 ∷ 0xc040b340 ∷ 0x265e5a51 ∷ 0xe9b6c7aa
    ∷ 0xd62f105d ∷ 0x02441453 ∷ 0xd8a1e681 ∷ 0xe7d3fbc8
    ∷ 0x21e1cde6 ∷ 0xc33707d6 ∷ 0xf4d50d87 ∷ 0x455a14ed
    ∷ 0xa9e3e905 ∷ 0xfcefa3f8 ∷ 0x676f02d9 ∷ 0x8d2a4c8a
    ∷ 0xfffa3942 ∷ 0x8771f681 ∷ 0x6d9d6122 ∷ 0xfde5380c
    ∷ 0xa4beea44 ∷ 0x4bdecfa9 ∷ 0xf6bb4b60 ∷ 0xbebfbc70
    ∷ 0x289b7ec6 ∷ 0xeaa127fa ∷ 0xd4ef3085 ∷ 0x04881d05
    ∷ 0xd9d4d039 ∷ 0xe6db99e5 ∷ 0x1fa27cf8 ∷ 0xc4ac5665
    ∷ 0xf4292244 ∷ 0x432aff97 ∷ 0xab9423a7 ∷ 0xfc93a039
    ∷ 0x655b59c3 ∷ 0x8f0ccc92 ∷ 0xffeff47d ∷ 0x85845dd1
    ∷ 0x6fa87e4f ∷ 0xfe2ce6e0 ∷ 0xa3014314 ∷ 0x4e0811a1
    ∷ 0xf7537e82 ∷ 0xbd3af235 ∷ 0x2ad7d2bb ∷ 0xeb86d391 ∷ []

-- one operation: a = b + ((a + f + x + t) <<< s). The next one names the words a step further on, so they change places here.
abbrev pub stepped : State → ℕ → ℕ → ℕ → ℕ → State
stepped v fₜ x s tᵢ = record { a = v.d; b = v.b ⊞ rotl 32 s ((v.a + fₜ + x + tᵢ) % 2 ^ 32); c = v.b; d = v.c }

unfoldable pub step : ℕ → List ℕ → State → State
step t x v = stepped v (mixed t v.b v.c v.d) (get_or x (get_or order t 0) 0) (get_or shifts (t / 16 * 4 + t % 4) 0) (get_or table t 0)

unfoldable pub steps : List ℕ → State → ℕ → State
unfolding step
steps x v zero = v
steps x v (suc t) = step t x (steps x v t)

-- the words of a block
abbrev pub words : List ℕ → List ℕ
words m = tabulate (λ (i : ℕ). le32 m (i * 4)) 16

-- the value after a block of 64 bytes
abbrev pub added : State → State → State
added h v = record { a = v.a ⊞ h.a; b = v.b ⊞ h.b; c = v.c ⊞ h.c; d = v.d ⊞ h.d }

unfoldable pub compressed : State → List ℕ → State
unfolding steps
compressed h m = added h (steps (words m) h 64)

-- 3.5: the digest, A first, the low byte of each word first
unfoldable pub output : State → List ℕ
output h = le_bytes h.a ++ le_bytes h.b ++ le_bytes h.c ++ le_bytes h.d

unfoldable pub md5 : List ℕ → List ℕ
unfolding compressed output
md5 m = output (hash compressed le64 start m)
