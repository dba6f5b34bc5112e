-- `survey::filepass_in` meets its contract: the record is a FILEPASS or not.
-- Assumes nothing.
use Rattle.std.proofs.Common.{arith}
use Rattle.std.proofs.lemmas.Grind.{common_steps}
use Rattle.laws.specs.Choice.{pick}
use Rattle.survey.proofs.filepass_in.Goals as goal

pub returns-then-next-eq47 : goal.returns-then-next-eq47
unfolding pick
returns-then-next-eq47 c = grind (arith, common_steps)

pub returns-else-next-eq47 : goal.returns-else-next-eq47
unfolding pick
returns-else-next-eq47 c = grind (arith, common_steps)
