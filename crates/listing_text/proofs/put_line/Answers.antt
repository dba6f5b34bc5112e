-- `listing_text::put_line` meets its contract: the parts of the line, one behind the other.
-- Assumes nothing.
use mathlib.Core.Path.{◌≡◌, sym}
use native.Mathlib.Omega.{arith}
use Rattle.binary_office.specs.Walk.{clear_len}
use Rattle.listing_text.specs.Text.{line}
use Rattle.listing_text.proofs.Written.{puts_join}
use Rattle.listing_text.proofs.put_line.Goals as goal

pub returns : goal.returns
unfolding line
returns c = let e : clear_len c.args.r.id c.args.r.len ≡ c.clear_len.result = sym c.clear_len.ensures in (
  rw e (puts_join _ _ (puts_join _ _ (puts_join _ _ (puts_join _ _ (puts_join _ _ (puts_join _ _ (puts_join _ _ c.put_decimal-n.ensures.0 c.put-n.ensures) c.put_hex-n.ensures.0) c.put-n-2.ensures) c.put_decimal-n-2.ensures.0) c.put-n-3.ensures) c.put_decimal-n-3.ensures.0) c.put.ensures),
  omega (arith, c.put_decimal-n.ensures.1, c.put-n.ensures.behind, c.put_hex-n.ensures.1, c.put-n-2.ensures.behind, c.put_decimal-n-2.ensures.1, c.put-n-3.ensures.behind, c.put_decimal-n-3.ensures.1, c.put.ensures.behind),
)
