-- Document 02, T-05: "the listing shows nothing for it". Of a stream that its records fill, and the same stream with padding behind it.
-- Assumes nothing.
use Rattle.std.specs.Prelude.{◌≡◌, ℕ, ◌+◌, ◌≤◌, List, [], ◌++◌, length}
use Rattle.binary_office.specs.Walk.{zero_bytes, remainder}
use Rattle.listing_text.specs.Text.{text}

abbrev pub ShowsNothing : Type 0
ShowsNothing = (s : List ℕ) (n : ℕ) → remainder s ≡ [] → n ≤ 3 → length s + n ≤ 32768 → text (s ++ zero_bytes n) ≡ text s
