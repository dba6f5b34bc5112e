-- `rc4::after_swap` meets its contract: the test picks.
-- Assumes nothing.
use mathlib.Core.Path.{refl}
use borrow.Author.Tests.{eq-eqb, ne_eqb}
use Rattle.laws.proofs.Choice.{stop, skip}
use Rattle.rc4.proofs.after_swap.Goals as goal

pub returns-then-index-j : goal.returns-then-index-j
returns-then-index-j c = stop _ (eq-eqb _ _ c.if-index-j.true)

pub returns-else-index-j : goal.returns-else-index-j
returns-else-index-j c = skip _ (ne_eqb _ _ c.if-index-j.false) refl
