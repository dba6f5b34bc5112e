-- `binary_office::record_at` meets its contract: what was found is what stands at the offset, so that the next header's offset fits.
-- Assumes nothing.
use Rattle.std.proofs.Common.{arith}
use Rattle.binary_office.proofs.Walks.{next_fits}
use Rattle.binary_office.proofs.record_at.Goals as goal

pub next_of-requires : goal.next_of-requires
next_of-requires c = next_fits c.args.book.now c.args.at (omega arith) (omega arith) _ c.step_at-found.ensures
