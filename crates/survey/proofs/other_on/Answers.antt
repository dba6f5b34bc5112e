-- `survey::other_on` meets its contract: behind another id nothing changes, and else the record is of the seven or not.
-- Assumes nothing.
use Rattle.std.proofs.Common.{arith}
use Rattle.std.proofs.lemmas.Grind.{common_steps}
use Rattle.laws.specs.Choice.{pick}
use Rattle.survey.proofs.other_on.Goals as goal

pub returns-then-is_none-never_encrypted : goal.returns-then-is_none-never_encrypted
unfolding pick
returns-then-is_none-never_encrypted c = grind (arith, common_steps)

pub returns-else-is_none-never_encrypted : goal.returns-else-is_none-never_encrypted
unfolding pick
returns-else-is_none-never_encrypted c = grind (arith, common_steps)
