-- `xor_obfuscation::toggled` meets its contract: the bit picks the answer.
-- Assumes nothing.
use mathlib.Core.Path.{refl}
use borrow.Author.Tests.{eq-eqb, ne_eqb}
use Rattle.laws.proofs.Choice.{stop, skip}
use Rattle.xor_obfuscation.proofs.toggled.Goals as goal

pub returns-then-bit-eq1 : goal.returns-then-bit-eq1
returns-then-bit-eq1 c = stop _ (eq-eqb _ _ c.if-bit-eq1.true)

pub returns-else-bit-eq1 : goal.returns-else-bit-eq1
returns-else-bit-eq1 c = skip _ (ne_eqb _ _ c.if-bit-eq1.false) refl
