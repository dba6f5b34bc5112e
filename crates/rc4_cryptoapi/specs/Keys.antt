-- RC4 CryptoAPI's key of a block: MS-OFFCRYPTO 2.3.5.2, as document 01 has it ("The three locks", CryptoAPI).
-- Assumes nothing.
use Rattle.std.specs.Prelude.{ℕ, ◌/◌, List, ◌++◌, take, replicate}
use Rattle.laws.specs.Choice.{pick, within}
use Rattle.word.specs.Word.{le_bytes}
use Rattle.sha_1.specs.Sha1.{sha1}

-- Hfinal = H(H0 + block), the block's number in four bytes
abbrev pub hfinal : List ℕ → ℕ → List ℕ
hfinal h0 block = sha1 (h0 ++ le_bytes block)

-- a block's key is the first key bits of it; forty bits means 5 digest bytes and 11 zeros. Any size that is not 48 to 128 counts as 40.
unfoldable pub block_key : List ℕ → ℕ → ℕ → List ℕ
block_key h0 bits block = pick (within 48 128 bits) (take (bits / 8) (hfinal h0 block)) (take 5 (hfinal h0 block) ++ replicate 11 0)
