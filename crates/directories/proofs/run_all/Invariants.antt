-- `directories::run_all` ends: each turn takes a case and its lengths from what is left.
use Rattle.std.proofs.Common.{length}
use Rattle.directories.proofs.run_all.Given as goal

abbrev pub decreases-loop-rest : goal.decreases-loop-rest
decreases-loop-rest g l = length l.rest
