-- Document 02, T-05: how the walk of every stream ends, by the bytes behind its records; that padding adds no record, and four zero bytes do; and that a stream
-- that is walked to its end is one that its records fill, padded.
-- Assumes nothing.
use Rattle.std.specs.Prelude.{◌≡◌, List, [], ◌∷◌, ◌++◌, ℕ, ◌+◌, ◌≤◌, length, get_or, Some, None}
use Rattle.binary_office.specs.Walk.{zero_bytes, walk, records_end, remainder}

pub record Ends (s : List ℕ) : Type 0 where
  -- nothing is left
  pub whole : remainder s ≡ [] → (walk s).fault ≡ None
  -- "The walk shall treat a remainder of one to three bytes, all zero, as the end;"
  pub padded : (n : ℕ) → 1 ≤ n → n ≤ 3 → remainder s ≡ zero_bytes n → (walk s).fault ≡ None
  -- "a remainder with any other byte is still 6.": a fault at the remainder's offset
  pub other : (o : ℕ) → records_end s ≤ o → (get_or s o 0 ≡ 0 → ⊥) → (walk s).fault ≡ Some (records_end s)
  -- and so is a remainder of four bytes or more: it has a header, whose body is cut off
  pub longer : records_end s + 4 ≤ length s → (walk s).fault ≡ Some (records_end s)

-- bytes behind a stream that add nothing to its walk
pub record PaddedBy (s zeros : List ℕ) : Type 0 where
  pub records : (walk (s ++ zeros)).records ≡ (walk s).records
  pub ends : (walk (s ++ zeros)).fault ≡ (walk s).fault
  pub left : remainder (s ++ zeros) ≡ zeros

-- a stream that its records fill, with at most three zero bytes behind it
pub record Parts (s : List ℕ) : Type 0 where
  pub book : List ℕ
  pub zeros : ℕ
  pub whole : s ≡ book ++ zero_bytes zeros
  pub filled : remainder book ≡ []
  pub most : zeros ≤ 3

pub record Remainders : Type 0 where
  pub ends : (s : List ℕ) → Ends s
  -- of a stream that its records fill
  pub padding : (s : List ℕ) (n : ℕ) → remainder s ≡ [] → n ≤ 3 → PaddedBy s (zero_bytes n)
  pub four : (s : List ℕ) → remainder s ≡ [] → (walk (s ++ zero_bytes 4)).records ≡ (walk s).records ++ (record { at = length s; id = 0; len = 0 } ∷ [])
  -- of a stream that is walked to its end
  pub parts : (s : List ℕ) → (walk s).fault ≡ None → Parts s
