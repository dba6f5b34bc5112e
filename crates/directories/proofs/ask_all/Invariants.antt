-- `directories::ask_all` ends: each turn takes a place from what is left.
use Rattle.std.proofs.Common.{length}
use Rattle.directories.proofs.ask_all.Given as goal

abbrev pub decreases-loop-places : goal.decreases-loop-places
decreases-loop-places g l = length l.places
