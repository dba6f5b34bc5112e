-- `listing_text::put_placed` meets its contract: the test picks the case.
-- Assumes nothing.
use mathlib.Core.Path.{◌≡◌, sym, ap, ◌∙◌}
use native.Mathlib.Omega.{arith}
use borrow.Author.Tests.{le-leb, lt-leb}
use Prim.Native.Nat.{ℕ}
use mathlib.Core.List.{[], ◌∷◌}
use Rattle.laws.proofs.Choice.{taken, left}
use Rattle.listing_text.specs.Text.{placed}
use Rattle.listing_text.proofs.Written.{puts_none}
use Rattle.listing_text.proofs.put_placed.Goals as goal

pub returns-then-unit-x : goal.returns-then-unit-x
returns-then-unit-x c = let g : placed c.args.x c.args.unit ≡ c.digit.result ∷ [] = taken _ _ (le-leb c.args.unit c.args.x c.if-unit-x.true) ∙ ap (λ (n : ℕ). n ∷ [])
    (sym c.digit.ensures) in
    (rw g c.put.ensures, omega arith)

pub returns : goal.returns
returns c = let g : placed c.args.x c.args.unit ≡ [] = left _ _ (lt-leb c.args.unit c.args.x c.if-unit-x.false) in
    (rw g (puts_none c.args.n c.args.out.now), omega arith)
