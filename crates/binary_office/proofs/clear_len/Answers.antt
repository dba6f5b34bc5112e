-- `binary_office::clear_len` meets its contract: the id picks the case.
-- Assumes nothing.
use mathlib.Core.Path.{refl, sym, ◌∙◌}
use borrow.Author.Tests.{eq-eqb, ne_eqb}
use Rattle.laws.proofs.Choice.{stop, skip}
use Rattle.binary_office.specs.Walk.{clear_len}
use Rattle.std.proofs.Math.Nat.{min_comm}
use Rattle.binary_office.proofs.clear_len.Goals as goal

pub returns-then-never_encrypted : goal.returns-then-never_encrypted
unfolding clear_len
returns-then-never_encrypted c = stop _ (sym c.never_encrypted.ensures ∙ c.if-never_encrypted.true)

pub returns-then-id-eq133 : goal.returns-then-id-eq133
unfolding clear_len
returns-then-id-eq133 c = skip _ (sym c.never_encrypted.ensures ∙ c.if-never_encrypted.false) (c.min.ensures ∙ min_comm _ _ ∙ stop _ (eq-eqb _ _ c.if-id-eq133.true))

pub returns : goal.returns
unfolding clear_len
returns c = skip _ (sym c.never_encrypted.ensures ∙ c.if-never_encrypted.false) (skip _ (ne_eqb _ _ c.if-id-eq133.false) refl)
