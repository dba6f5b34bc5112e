-- RC4 as document 01 has it ("The three locks", RC4). Sums of the table's indices and entries are modulo 256.
-- Assumes nothing.
use Rattle.std.specs.Prelude.{◌≡◌, ℕ, zero, suc, ◌+◌, ◌-◌, ◌/◌, ◌%◌, min, List, [], ◌∷◌, ◌++◌, Option, Some, None, eqb, ltb, length, get_or, set, drop}
use Rattle.std.specs.Int.Bits.{bit_xor}
use Rattle.std.proofs.Props.{props}
use Rattle.laws.specs.Choice.{pick, within}
use Rattle.laws.specs.Offsets.{tabulate}
use Rattle.rc4.specs.declared.Keystream.{Keystream}

-- the table starts as 0 to 255
unfoldable pub identity : List ℕ
unfolding tabulate
identity = tabulate (λ (i : ℕ). i) 256

-- the entries i and j swap
unfoldable pub swap : List ℕ → ℕ → ℕ → List ℕ
swap t i j = set (set t i (get_or t j 0)) j (get_or t i 0)

-- the key mixing: the table and j
pub record Mixing : Type 0 where
  pub table : List ℕ
  pub j : ℕ

-- for each i rising, j gains entry i and the key byte at i mod key length, and the entries i and j swap
unfoldable pub mix : List ℕ → ℕ → Mixing → Mixing
unfolding swap
mix key i m = let j = (m.j + get_or m.table i 0 + get_or key (i % length key) 0) % 256 in record { table = swap m.table i j; j = j }

-- the mixing after the first n values of i
unfoldable pub mixing : List ℕ → ℕ → Mixing
unfolding identity mix
mixing key zero = record { table = identity; j = 0 }
mixing key (suc i) = mix key i (mixing key i)

-- a keystream before its first byte: the mixed table, with i and j at 0 again
unfoldable pub keyed : List ℕ → Keystream
unfolding mixing
keyed key = record { table = (mixing key 256).table; i = 0; j = 0 }

-- a step for each byte: 1 is added to i and entry i to j, and the two entries swap
unfoldable pub next : Keystream → Keystream
unfolding swap
next k =
    let i = (k.i + 1) % 256 in
    let j = (k.j + get_or k.table i 0) % 256 in
    record { table = swap k.table i j; i = i; j = j }

-- the byte that a step gives: the entry at the sum of the two entries
unfoldable pub given : Keystream → ℕ
given k = get_or k.table ((get_or k.table k.i 0 + get_or k.table k.j 0) % 256) 0

-- a keystream after n bytes
unfoldable pub after : Keystream → ℕ → Keystream
unfolding next
after k zero = k
after k (suc n) = next (after k n)

-- the byte at position n of what is left of a keystream, counted from 0
unfoldable pub byte_from : Keystream → ℕ → ℕ
unfolding given after
byte_from k n = given (after k (suc n))

-- the byte at position n of the keystream made from a key
abbrev pub keystream_byte : List ℕ → ℕ → ℕ
keystream_byte key n = byte_from (keyed key) n

-- a keystream is made from a key of 5 to 16 bytes, and none from a key of any other length
unfoldable pub made : List ℕ → Option Keystream
unfolding pick
made key = pick (within 5 16 (length key)) (Some (keyed key)) None

-- a byte of s, exclusive-or the keystream byte for its offset
abbrev pub applied : Keystream → List ℕ → ℕ → ℕ
applied k s n = bit_xor (get_or s n 0) (byte_from k n)

-- the bytes of s under a keystream, as many as d has room for, in the place of d's first ones
abbrev pub enciphered : Keystream → List ℕ → List ℕ → List ℕ
enciphered k s d = tabulate (applied k s) (min (length s) (length d)) ++ drop (min (length s) (length d)) d

-- what applying a keystream to s into d leaves: those bytes, and the keystream behind them
pub record Applies (k : Keystream) (s d : List ℕ) (k' : Keystream) (d' : List ℕ) : Type 0 where
  pub keystream : k' ≡ after k (min (length s) (length d))
  pub bytes : d' ≡ enciphered k s d

-- half of the bytes that both lists have room for
abbrev pub half : List ℕ → List ℕ → ℕ
half s d = min (length s) (length d) / 2

-- a byte of s under the first keystream in the first half, of h bytes, and under the second in the second
abbrev pub applied_halves : Keystream → Keystream → ℕ → List ℕ → ℕ → ℕ
applied_halves a b h s n = pick (ltb n h) (applied a s n) (bit_xor (get_or s n 0) (byte_from b (n - h)))

-- the bytes of both halves of s, as many as d has room for, in the place of d's first ones
abbrev pub enciphered_halves : Keystream → Keystream → List ℕ → List ℕ → List ℕ
enciphered_halves a b s d = tabulate (applied_halves a b (half s d) s) (half s d + half s d) ++ drop (half s d + half s d) d

-- what applying two keystreams to the halves of s into d leaves
pub record AppliesHalves (a b : Keystream) (s d d' : List ℕ) : Type 0 where
  pub bytes : d' ≡ enciphered_halves a b s d

-- how often v stands in a table
unfoldable pub count : ℕ → List ℕ → ℕ
unfolding pick
count v [] = 0
count v (x ∷ xs) = pick (eqb v x) 1 0 + count v xs

-- a rearrangement of the 256 byte values: each stands in it once, and nothing else does
unfoldable pub Rearranged : List ℕ → Type 0
unfolding count pick
Rearranged t = (length t ≡ 256) × ((v : ℕ) → count v t ≡ pick (ltb v 256) 1 0)

-- there is at most one proof of it, as a ghost field wants
pub Rearranged-prop : (t : List ℕ) → IsProp (Rearranged t)
unfolding Rearranged
Rearranged-prop t = Prim.hlevel props
