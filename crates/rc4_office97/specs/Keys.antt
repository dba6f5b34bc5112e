-- The 1.1 lock's key of a block: MS-OFFCRYPTO 2.3.6.2, as document 01 has it ("The three locks", 1.1).
-- Assumes nothing.
use Rattle.std.specs.Prelude.{ℕ, zero, suc, List, [], ◌++◌, take}
use Rattle.word.specs.Word.{le_bytes}
use Rattle.md_5.specs.Md5.{md5}

-- a list n times over
unfoldable pub times : ℕ → List ℕ → List ℕ
times zero xs = []
times (suc n) xs = xs ++ times n xs

-- the first 5 bytes of H0, followed by the salt, sixteen times over; the first 5 bytes of MD5 of that
unfoldable pub truncated : List ℕ → List ℕ → List ℕ
truncated h0 salt = take 5 (md5 (times 16 (take 5 h0 ++ salt)))

-- a block's key is MD5 of those 5 and the block's number in four bytes
unfoldable pub block_key : List ℕ → ℕ → List ℕ
block_key hash block = md5 (hash ++ le_bytes block)
