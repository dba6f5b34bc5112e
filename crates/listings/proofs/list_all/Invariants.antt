-- `listings::list_all` ends: each turn takes a stream and its length from what is left.
use Rattle.std.proofs.Common.{length}
use Rattle.listings.proofs.list_all.Given as goal

abbrev pub decreases-loop-streams : goal.decreases-loop-streams
decreases-loop-streams g l = length l.streams
