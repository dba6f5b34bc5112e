use Rattle.std.proofs.Common.{arith}
use Rattle.std.proofs.lemmas.Grind.{common_steps}
use Rattle.rc4_office97.specs.Parse.{parsed}
use Rattle.block_keys.proofs.office97.Goals as goal

pub returns-in_err-parse : goal.returns-in_err-parse
unfolding parsed
returns-in_err-parse c = grind (arith, common_steps)

pub returns : goal.returns
unfolding parsed
returns c = grind (arith, common_steps)
