-- The keys of a stream's blocks, the keystream that they make, the password check and what it is made from: MS-OFFCRYPTO 2.3.5.2, 2.3.5.5, 2.3.5.6, 2.3.6.2,
-- 2.3.6.3 and 2.3.6.4, MS-XLS 2.2.10, as document 01 has them ("The three locks").
-- Assumes nothing.
use Rattle.std.specs.Prelude.{◌≡◌, ℕ, zero, suc, ◌+◌, ◌-◌, ◌/◌, ◌%◌, min, Bool, true, ◌&&◌, List, ◌++◌, eqb, length, get_or, take, drop, replicate}
use Rattle.std.specs.Int.Bits.{bit_xor}
use Rattle.laws.specs.Choice.{pick}
use Rattle.laws.specs.Offsets.{tabulate}
use Rattle.sha_1.specs.Sha1.{sha1}
use Rattle.md_5.specs.Md5.{md5}
use Rattle.rc4.specs.Rc4.{keystream_byte}
use Rattle.password_digest.specs.Digest.{sha1_of, md5_of}
use Rattle.rc4_office97.specs.Keys as office97
use Rattle.rc4_cryptoapi.specs.Keys as cryptoapi
use Rattle.block_keys.specs.declared.Kind.{Kind}
use Rattle.block_keys.specs.declared.Kind.TheVariants.{Office97, CryptoApi}
use Rattle.block_keys.specs.declared.Schedule.{Schedule}

-- what the keys of all blocks are made from: kind, key bits, salt and password alone. 1.1 keeps 5 bytes of hash, and zeros behind them.
abbrev pub schedule_of : Kind → (bits : ℕ) → (salt password : List ℕ) → Schedule
schedule_of Office97 bits salt password = record { kind = Office97; key_bits = bits; digest = office97.truncated (md5_of password) salt ++ replicate 15 0 }
schedule_of CryptoApi bits salt password = record { kind = CryptoApi; key_bits = bits; digest = sha1_of salt password }

-- the key of a block
abbrev pub key_by : Kind → (bits : ℕ) → (digest : List ℕ) → (block : ℕ) → List ℕ
key_by Office97 bits digest block = office97.block_key (take 5 digest) block
key_by CryptoApi bits digest block = cryptoapi.block_key digest bits block

unfoldable pub block_key : Schedule → ℕ → List ℕ
block_key s block = key_by s.kind s.key_bits s.digest block

-- the keystream byte for an offset is the one at offset mod size, in the keystream made from the key of block offset / size
unfoldable pub keystream_at : (size : ℕ) → (key_of : ℕ → List ℕ) → (offset : ℕ) → ℕ
keystream_at size key_of offset = keystream_byte (key_of (offset / size)) (offset % size)

-- a byte of s, exclusive-or the keystream byte for its offset
abbrev pub deciphered_at : ℕ → (ℕ → List ℕ) → List ℕ → ℕ → ℕ
deciphered_at size key_of s offset = bit_xor (get_or s offset 0) (keystream_at size key_of offset)

-- how many blocks of so many bytes the first n bytes start
unfoldable pub started_blocks : (size n : ℕ) → ℕ
started_blocks size n = (n + (size - 1)) / size

-- what deciphering s into d leaves, for blocks of at least a byte: as many bytes as both have room for; and how many keys that takes, one for each block
-- that those bytes start
pub record Decrypts (size : ℕ) (key_of : ℕ → List ℕ) (s d : List ℕ) (keys : ℕ) (d' : List ℕ) : Type 0 where
  pub bytes : d' ≡ pick (eqb size 0) d (tabulate (deciphered_at size key_of s) (min (length s) (length d)) ++ drop (min (length s) (length d)) d)
  pub counted : keys ≡ pick (eqb size 0) 0 (started_blocks size (min (length s) (length d)))

-- the digest that a verifier is checked by, and its length
abbrev pub digest_by : Kind → List ℕ → List ℕ
digest_by Office97 m = md5 m
digest_by CryptoApi m = sha1 m

abbrev pub digest_len : Kind → ℕ
digest_len Office97 = 16
digest_len CryptoApi = 20

-- the first n bytes of two lists agree
unfoldable pub agree : List ℕ → List ℕ → ℕ → Bool
agree a b zero = true
agree a b (suc n) = agree a b n && eqb (get_or a n 0) (get_or b n 0)

-- n bytes of s under the keystream of a key, from a position of it on
abbrev pub under : (key : List ℕ) → (from : ℕ) → (s : List ℕ) → (n : ℕ) → List ℕ
under key from s n = tabulate (λ (i : ℕ). bit_xor (get_or s i 0) (keystream_byte key (from + i))) n

-- the check runs block 0's keystream over verifier, then hash, unbroken; the digest of the first must equal the second
unfoldable pub verified : Schedule → (verifier hash : List ℕ) → Bool
verified s verifier hash =
    agree (digest_by s.kind (under (block_key s 0) 0 verifier 16)) (under (block_key s 0) 16 hash (digest_len s.kind)) (digest_len s.kind)

-- 2.3.5.5 and 2.3.6.3: block 0's keystream runs over the verifier, then over the plain verifier's digest, unbroken
abbrev pub encrypted_verifier : Schedule → (verifier : List ℕ) → List ℕ
encrypted_verifier s verifier = under (block_key s 0) 0 verifier 16

abbrev pub encrypted_verifier_hash : Schedule → (verifier : List ℕ) → List ℕ
encrypted_verifier_hash s verifier = under (block_key s 0) 16 (digest_by s.kind verifier) (digest_len s.kind)
