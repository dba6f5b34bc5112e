-- `rc4_cryptoapi::bits_of` meets its contract: zero is read as 40.
-- Assumes nothing.
use mathlib.Core.Path.{refl}
use borrow.Author.Tests.{eq-eqb, ne_eqb}
use Rattle.laws.proofs.Choice.{stop, skip}
use Rattle.rc4_cryptoapi.proofs.bits_of.Goals as goal

pub returns-then-size-eq0 : goal.returns-then-size-eq0
returns-then-size-eq0 c = stop _ (eq-eqb _ _ c.if-size-eq0.true)

pub returns-else-size-eq0 : goal.returns-else-size-eq0
returns-else-size-eq0 c = skip _ (ne_eqb _ _ c.if-size-eq0.false) refl
