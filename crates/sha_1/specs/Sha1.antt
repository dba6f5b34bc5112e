-- SHA-1: FIPS 180-4, for messages of whole bytes.
-- Assumes nothing.
use Rattle.std.specs.Prelude.{ℕ, zero, suc, ◌+◌, ◌-◌, ◌*◌, ◌%◌, ◌^◌, List, [], ◌∷◌, ◌++◌, ltb, get_or}
use Rattle.std.specs.Int.Bits.{bit_and, bit_xor}
use Rattle.laws.specs.Choice.{pick}
use Rattle.word.specs.Word.{◌⊞◌, rotl, be32, be_bytes}
use Rattle.padding.specs.Padding.{hash, be64}
use Rattle.sha_1.specs.declared.State.{State}

-- 3.2 (1): the complement of a word
abbrev pub complement : ℕ → ℕ
complement x = 2 ^ 32 - 1 - x

-- 4.1.1
abbrev pub ch : ℕ → ℕ → ℕ → ℕ
ch x y z = bit_xor (bit_and x y) (bit_and (complement x) z)

abbrev pub parity : ℕ → ℕ → ℕ → ℕ
parity x y z = bit_xor (bit_xor x y) z

abbrev pub maj : ℕ → ℕ → ℕ → ℕ
maj x y z = bit_xor (bit_xor (bit_and x y) (bit_and x z)) (bit_and y z)

unfoldable pub f : ℕ → ℕ → ℕ → ℕ → ℕ
unfolding pick
f t x y z = pick (ltb t 20) (ch x y z) (pick (ltb t 40) (parity x y z) (pick (ltb t 60) (maj x y z) (parity x y z)))

-- 4.2.1
unfoldable pub k : ℕ → ℕ
unfolding pick
k t = pick (ltb t 20) 0x5a827999 (pick (ltb t 40) 0x6ed9eba1 (pick (ltb t 60) 0x8f1bbcdc 0xca62c1d6))

-- 5.3.1: H(0)
abbrev pub start : State
start = record { h0 = 0x67452301; h1 = 0xefcdab89; h2 = 0x98badcfe; h3 = 0x10325476; h4 = 0xc3d2e1f0 }

-- 6.1.2, step 1: the first t words of the message schedule of a block
unfoldable pub schedule : List ℕ → ℕ → List ℕ
unfolding pick
schedule m zero = []
schedule m (suc t) =
    let w = schedule m t in
    w ++ (pick (ltb t 16) (be32 m (t * 4)) (rotl 32 1 (bit_xor (bit_xor (bit_xor (get_or w (t - 3) 0) (get_or w (t - 8) 0)) (get_or w (t - 14) 0)) (get_or w (t - 16) 0))) ∷ [])

-- steps 2 and 3: the working variables a, b, c, d, e are the fields in order, fₜ the function's value, kₜ and wₜ the constant and the word
abbrev pub turned : State → ℕ → ℕ → ℕ → State
turned v fₜ kₜ wₜ =
    record {
      h0 = (rotl 32 5 v.h0 + fₜ + v.h4 + kₜ + wₜ) % 2 ^ 32;
      h1 = v.h0;
      h2 = rotl 32 30 v.h1;
      h3 = v.h2;
      h4 = v.h3;
    }

unfoldable pub round : ℕ → ℕ → State → State
unfolding f k
round t w v = turned v (f t v.h1 v.h2 v.h3) (k t) w

unfoldable pub rounds : List ℕ → State → ℕ → State
unfolding round
rounds w v zero = v
rounds w v (suc t) = round t (get_or w t 0) (rounds w v t)

-- step 4
abbrev pub added : State → State → State
added h v = record { h0 = v.h0 ⊞ h.h0; h1 = v.h1 ⊞ h.h1; h2 = v.h2 ⊞ h.h2; h3 = v.h3 ⊞ h.h3; h4 = v.h4 ⊞ h.h4 }

-- the value after a block of 64 bytes
unfoldable pub compressed : State → List ℕ → State
unfolding schedule rounds
compressed h m = added h (rounds (schedule m 80) h 80)

-- the digest: the five words, the most significant byte first
unfoldable pub output : State → List ℕ
output h = be_bytes h.h0 ++ be_bytes h.h1 ++ be_bytes h.h2 ++ be_bytes h.h3 ++ be_bytes h.h4

unfoldable pub sha1 : List ℕ → List ℕ
unfolding compressed output
sha1 m = output (hash compressed be64 start m)
