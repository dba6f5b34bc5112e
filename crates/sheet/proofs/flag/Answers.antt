-- `sheet::flag` meets its contract: the test picks the number.
-- Assumes nothing.
use Rattle.std.proofs.Common.{arith}
use Rattle.std.proofs.lemmas.Grind.{common_steps}
use Rattle.laws.specs.Choice.{pick}
use Rattle.sheet.proofs.flag.Goals as goal

pub returns : goal.returns
unfolding pick
returns c = grind (arith, common_steps)
