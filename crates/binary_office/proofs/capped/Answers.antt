-- `binary_office::capped` meets its contract: the lesser of the stream's length and the cap cuts where the cap does.
-- Assumes nothing.
use Rattle.binary_office.proofs.Locks.{take_least}
use Rattle.binary_office.proofs.capped.Goals as goal

pub returns : goal.returns
returns c = take_least c.args.stream.now 1048576 c.min.result c.min.ensures
