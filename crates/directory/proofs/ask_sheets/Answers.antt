-- `directory::ask_sheets` meets its contract: each way out is one answer of the two questions.
-- Assumes nothing.
use Rattle.std.proofs.Common.{arith}
use Rattle.std.proofs.lemmas.Grind.{common_steps}
use Rattle.directory.proofs.Checks.{sheets_counted, sheet_refused, bracket_refused, sheets_told}
use Rattle.directory.proofs.ask_sheets.Goals as goal

pub find_unfit-requires : goal.find_unfit-requires
find_unfit-requires c = sheets_counted c.args.stream.now c.args.place c.args.tally c.requires

pub returns-in-Some : goal.returns-in-Some
returns-in-Some c = grind (arith, common_steps, sheet_refused)

pub returns-in-Some-unpaired : goal.returns-in-Some-unpaired
returns-in-Some-unpaired c = grind (arith, common_steps, bracket_refused)

pub start_at-requires-clause-counted : goal.start_at-requires-clause-counted
start_at-requires-clause-counted c = sheets_counted c.args.stream.now c.args.place c.args.tally c.requires

pub returns : goal.returns
returns c = grind (arith, common_steps, sheets_told)
