-- What the code asks of the function that it is given for a round.
-- Assumes nothing.
use Rattle.std.specs.Prelude.{◌≡◌, ℕ, ◌+◌, ◌<◌, ◌≤◌}
use Rattle.md_5.specs.Md5.{mixed}

-- each result of the function is that of the n operations from the one numbered t on
abbrev pub Mixes : (ℕ → ℕ → ℕ → ℕ → Type 0) → ℕ → ℕ → Type 0
Mixes gives t n = (i x y z r : ℕ) → t ≤ i → i < t + n → gives x y z r → r ≡ mixed i x y z
