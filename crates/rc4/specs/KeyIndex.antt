-- The key index without a division, after request T-02 of document 02: "carry the key index along and set it back to 0 at the key's end".
-- Assumes nothing.
use Rattle.std.specs.Prelude.{◌≡◌, ℕ, zero, suc, ◌+◌, ◌%◌, ◌≤◌, eqb}
use Rattle.laws.specs.Choice.{pick}

-- the index that follows an index, in a key of len bytes: one more, and 0 at the key's end
unfoldable pub following_index : (len index : ℕ) → ℕ
unfolding pick
following_index len index = pick (eqb (index + 1) len) 0 (index + 1)

-- the carried index at each step: 0 at first, then the index that follows the one before
unfoldable pub carried_index : (len step : ℕ) → ℕ
unfolding following_index
carried_index len zero = 0
carried_index len (suc step) = following_index len (carried_index len step)

-- "over the key length, prove the carried index to be document 01's remainder at every step"
abbrev pub CarriedIsRemainder : Type 0
CarriedIsRemainder = (len step : ℕ) → 1 ≤ len → carried_index len step ≡ step % len
