-- `replay::run_file` ends: each turn takes a case and its lengths from what is left.
use Rattle.std.proofs.Common.{length}
use Rattle.replay.proofs.run_file.Given as goal

abbrev pub decreases-loop-cases : goal.decreases-loop-cases
decreases-loop-cases g l = length l.cases
