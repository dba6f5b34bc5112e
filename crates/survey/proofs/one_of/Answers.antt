-- `survey::one_of` meets its contract: the test picks.
-- Assumes nothing.
use mathlib.Core.Path.{refl}
use Rattle.laws.proofs.Choice.{stop, skip}
use Rattle.survey.proofs.one_of.Goals as goal

pub returns-then-test : goal.returns-then-test
returns-then-test c = stop _ c.if-test.true

pub returns-else-test : goal.returns-else-test
returns-else-test c = skip _ c.if-test.false refl
