-- `short_books::run_all` ends: each turn takes a case and its lengths from what is left.
use Rattle.std.proofs.Common.{length}
use Rattle.short_books.proofs.run_all.Given as goal

abbrev pub decreases-loop-before : goal.decreases-loop-before
decreases-loop-before g l = length l.rest
