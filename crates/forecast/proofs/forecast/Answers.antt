-- `forecast::forecast` meets its contract: what the survey told, and the keys of the lock.
-- Assumes nothing.
use mathlib.Core.Path.{sym, ◌∙◌}
use Rattle.std.proofs.Common.{arith}
use Rattle.std.proofs.lemmas.Grind.{common_steps}
use Rattle.forecast.proofs.Foretold.{foretold_refused, foretold}
use Rattle.forecast.proofs.forecast.Goals as goal

pub returns-in_err-book : goal.returns-in_err-book
returns-in_err-book c = grind (arith, common_steps, foretold_refused)

pub returns : goal.returns
returns c = rw c.keys_of.ensures (foretold c.args.stream.now _ (sym c.survey.ensures ∙ c.in_ok-book.was))
