-- What SHA-1 and MD5 share: the padding of a message to whole blocks of 64 bytes, and the hash of its blocks in order.
-- FIPS 180-4 sections 5.1.1, 5.2.1 and 6.1.2; RFC 1321 sections 3.1, 3.2 and 3.4. Messages are of whole bytes.
-- The two differ in the order of the eight length bytes, the starting value and the function on one block, which are parameters here.
-- Assumes nothing.
use Rattle.std.specs.Prelude.{ℕ, zero, suc, ◌-◌, ◌*◌, ◌/◌, ◌%◌, ◌^◌, List, [], ◌∷◌, ◌++◌, length, take, drop, replicate}

-- a length of 64 bits as bytes, the most significant first (FIPS 180-4 5.1.1), and the least significant first (RFC 1321 3.2).
-- Of a greater length RFC 1321 takes the low 64 bits, and so does SHA-1 here, where FIPS 180-4 admits none.
unfoldable pub be64 : ℕ → List ℕ
be64 n = n / 2 ^ 56 % 256 ∷ n / 2 ^ 48 % 256 ∷ n / 2 ^ 40 % 256 ∷ n / 2 ^ 32 % 256 ∷ n / 2 ^ 24 % 256 ∷ n / 2 ^ 16 % 256 ∷ n / 2 ^ 8 % 256 ∷ n % 256 ∷ []

unfoldable pub le64 : ℕ → List ℕ
le64 n = n % 256 ∷ n / 2 ^ 8 % 256 ∷ n / 2 ^ 16 % 256 ∷ n / 2 ^ 24 % 256 ∷ n / 2 ^ 32 % 256 ∷ n / 2 ^ 40 % 256 ∷ n / 2 ^ 48 % 256 ∷ n / 2 ^ 56 % 256 ∷ []

-- how many zero bytes: the fewest that, behind n bytes and the byte 80, leave 8 bytes of a block
abbrev pub zeros : ℕ → ℕ
zeros n = (119 - n % 64) % 64

-- what goes behind the n bytes of a message: the bit 1, zeros, and the length in bits, as eight bytes
abbrev pub ending : ℕ → List ℕ → List ℕ
ending n size = 0x80 ∷ (replicate (zeros n) 0 ++ size)

-- the hash of the first n blocks of s, from the value h on, by the function f on a value and a block
unfoldable pub blocks : {S : Type 0} → (S → List ℕ → S) → S → List ℕ → ℕ → S
blocks f h s zero = h
blocks f h s (suc n) = f (blocks f h s n) (take 64 (drop (n * 64) s))

-- the hash of a message of `total` bytes that ends in m, where the blocks before m gave h
unfoldable pub hash_end : {S : Type 0} → (S → List ℕ → S) → (ℕ → List ℕ) → S → List ℕ → ℕ → S
unfolding blocks
hash_end f order h m total = let padded = m ++ ending (length m) (order (8 * total)) in blocks f h padded (length padded / 64)

-- the hash of a whole message, from the starting value on
abbrev pub hash : {S : Type 0} → (S → List ℕ → S) → (ℕ → List ℕ) → S → List ℕ → S
hash f order start m = hash_end f order start m (length m)
