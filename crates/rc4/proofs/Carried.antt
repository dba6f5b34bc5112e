-- The carried key index is the remainder: by induction over the steps, since the index that follows a remainder is the next number's remainder.
-- Assumes nothing.
use mathlib.Core.Path.{◌≡◌, sym, ap, ◌∙◌}
use Prim.Native.Nat.{ℕ, zero, suc, ◌+◌, ◌%◌, ◌≤◌, ◌<◌}
use native.Mathlib.Nat.{zero-mod, suc-mod, mod_self, mod-lt, mod-eq_of_lt}
use native.Mathlib.Numerals.{add-one}
use native.Mathlib.Omega.{arith}
use borrow.Author.Tests.{eq-eqb, ne_eqb}
use Rattle.laws.proofs.Choice.{taken, left, same_or}
use Rattle.rc4.specs.KeyIndex.{following_index, carried_index, CarriedIsRemainder}

-- what follows an index: 0 at the key's end, and one more before it
pub following_end : (len index : ℕ) → index + 1 ≡ len → following_index len index ≡ 0
unfolding following_index
following_end len index e = taken 0 (index + 1) (eq-eqb (index + 1) len e)

pub following_more : (len index : ℕ) → (index + 1 ≡ len → ⊥) → following_index len index ≡ index + 1
unfolding following_index
following_more len index e = left 0 (index + 1) (ne_eqb (index + 1) len e)

-- what follows a remainder: one more is the next number's remainder, unless it is the length, where that is 0
follows : (len step : ℕ) → 1 ≤ len → following_index len (step % len) ≡ suc step % len
follows len step some =
    let more = step % len + 1 in
    let below : step % len < len = mod-lt step some in
    let next : suc step % len ≡ more % len = suc-mod step len ∙ ap (λ (n : ℕ). n % len) (sym (add-one (step % len))) in
    same_or more len
    (λ e. following_end len (step % len) e ∙ sym (next ∙ ap (λ (n : ℕ). n % len) e ∙ mod_self len))
    (λ e. following_more len (step % len) e ∙ sym (next ∙ mod-eq_of_lt (omega arith)))

pub carried_is_remainder : CarriedIsRemainder
unfolding carried_index
carried_is_remainder len zero some = sym (zero-mod len)
carried_is_remainder len (suc step) some = ap (following_index len) (carried_is_remainder len step some) ∙ follows len step some

-- the carried index one step on
pub carried_more : (len step index : ℕ) → index ≡ carried_index len step → following_index len index ≡ carried_index len (step + 1)
unfolding carried_index
carried_more len step index e = rw (e, add-one step)
