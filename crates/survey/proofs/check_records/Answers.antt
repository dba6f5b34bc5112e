-- `survey::check_records` meets its contract: each way out is one answer of the two questions.
-- Assumes nothing.
use Rattle.std.proofs.Common.{arith}
use Rattle.std.proofs.lemmas.Grind.{common_steps}
use Rattle.survey.proofs.First.{unreadable, no_bof, in_order_lem}
use Rattle.survey.proofs.check_records.Goals as goal

pub returns-in-Some : goal.returns-in-Some
returns-in-Some c = grind (arith, common_steps, unreadable)

pub returns-then-starts_bof : goal.returns-then-starts_bof
returns-then-starts_bof c = grind (arith, common_steps, in_order_lem)

pub returns-else-starts_bof : goal.returns-else-starts_bof
returns-else-starts_bof c = grind (arith, common_steps, no_bof)
