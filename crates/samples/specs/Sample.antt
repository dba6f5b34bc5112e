-- The data of the test programs: parts, and numbers of four bytes, the lower first. What does not lie within the data is no bytes, or 0.
-- Assumes nothing.
use Rattle.std.specs.Prelude.{ℕ, ◌+◌, ◌%◌, List, [], leb, length, take, drop}
use Rattle.laws.specs.Choice.{pick}
use Rattle.word.specs.Word.{le32}

unfoldable pub part_at : List ℕ → ℕ → ℕ → List ℕ
part_at d at len = pick (leb (at + len) (length d)) (take len (drop at d)) []

unfoldable pub number_at : List ℕ → ℕ → ℕ
number_at d at = pick (leb (at + 4) (length d)) (le32 d at) 0

-- the byte at an offset of a buffer as the programs lend it: never zero
abbrev pub lent_at : ℕ → ℕ
lent_at i = i % 251 + 1
