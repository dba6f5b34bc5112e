-- `survey::count_records` meets its contract: the counts are three of what is tallied.
-- Assumes nothing.
use Rattle.survey.specs.Steps.{tally_of}
use Rattle.survey.proofs.count_records.Goals as goal

pub returns : goal.returns
unfolding tally_of
returns c = rw c.tally_records-walked.ensures
