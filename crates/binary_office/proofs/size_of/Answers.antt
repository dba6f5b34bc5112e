-- `binary_office::size_of` meets its contract: the version has a key size, or it has none.
-- Assumes nothing.
use Rattle.binary_office.proofs.Locks.{size_other, size_in}
use Rattle.binary_office.proofs.size_of.Goals as goal

pub returns-then-sized : goal.returns-then-sized
returns-then-sized c = size_in c.args.body.now c.args.version _ _ c.in_ok-version.was c.bits_in.result c.if-sized.true c.bits_in.ensures

pub returns-else-sized : goal.returns-else-sized
returns-else-sized c = size_other c.args.body.now c.args.version _ _ c.in_ok-version.was c.if-sized.false
