-- `listing_text::put_decimal` meets its contract: the five places, one behind the other, are the number in decimal digits.
-- Assumes nothing.
use native.Mathlib.Omega.{arith}
use mathlib.Core.List.{◌++◌}
use Rattle.listing_text.specs.Text.{placed}
use Rattle.listing_text.proofs.Written.{puts_join}
use Rattle.listing_text.proofs.Numbers.{five}
use Rattle.listing_text.proofs.put_decimal.Goals as goal

pub returns : goal.returns
returns c = let all = puts_join _ _ (puts_join (placed c.args.x 10000 ++ placed c.args.x 1000 ++ placed c.args.x 100) (placed c.args.x 10)
    (puts_join (placed c.args.x 10000 ++ placed c.args.x 1000) (placed c.args.x 100) (puts_join (placed c.args.x 10000) (placed c.args.x 1000) c.put_placed-n.ensures.0 c.put_placed-n-2.ensures.0) c.put_placed-n-3.ensures.0) c.put_placed-n-4.ensures.0) c.put.ensures in
    (rw (← (five c.args.x (omega arith)), ← c.digit.ensures) all, omega (arith, c.put_placed-n.ensures.1, c.put_placed-n-2.ensures.1, c.put_placed-n-3.ensures.1, c.put_placed-n-4.ensures.1))
