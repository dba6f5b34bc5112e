-- `block_keys::same` meets its contract: after i turns the first i bytes have been compared.
-- Assumes nothing.
use mathlib.Core.Path.{refl}
use native.Mathlib.Numerals.{add-one}
use borrow.Author.Rules.{rules}
use Rattle.block_keys.specs.BlockKeys.{agree}
use Rattle.block_keys.proofs.same.Goals as goal

pub loop-i-init : goal.loop-i-init
unfolding agree
loop-i-init c = (search rules, refl)

pub loop-i-preserved : goal.loop-i-preserved
unfolding agree
loop-i-preserved c = (search rules, rw (add-one c.loop-i.i, c.loop-i.invariant.1))
