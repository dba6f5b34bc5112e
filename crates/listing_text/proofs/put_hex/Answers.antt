-- `listing_text::put_hex` meets its contract: the four digits, one behind the other.
-- Assumes nothing.
use native.Mathlib.Omega.{arith}
use Rattle.listing_text.specs.Text.{hex4}
use Rattle.listing_text.proofs.Written.{puts_join}
use Rattle.listing_text.proofs.put_hex.Goals as goal

pub returns : goal.returns
unfolding hex4
returns c = (
  rw (← c.hex_digit.ensures, ← c.hex_digit-2.ensures, ← c.hex_digit-3.ensures, ← c.hex_digit-4.ensures)
      (puts_join _ _ (puts_join _ _ (puts_join _ _ c.put-n.ensures c.put-n-2.ensures) c.put-n-3.ensures) c.put.ensures),
  omega arith,
)
