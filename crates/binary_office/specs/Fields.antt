-- Fields of two and four bytes, the lower byte first (document 01, its first paragraph): a value, or that it is cut short.
-- Assumes nothing.
use Rattle.std.specs.Prelude.{ℕ, ◌+◌, ◌*◌, ◌^◌, List, leb, length, get_or, Some, None, Option}
use Rattle.laws.specs.Choice.{pick}
use Rattle.word.specs.Word.{le32}

unfoldable pub le16_at : List ℕ → ℕ → Option ℕ
le16_at s at = pick (leb (at + 2) (length s)) (Some (get_or s at 0 + get_or s (at + 1) 0 * 2 ^ 8)) None

unfoldable pub le32_at : List ℕ → ℕ → Option ℕ
le32_at s at = pick (leb (at + 4) (length s)) (Some (le32 s at)) None
