-- `rc4::mix_both` meets its contract: after k turns the tables and the locals are both mixings after the first 2 * k values.
-- Assumes nothing.
use Rattle.rc4.proofs.Steps.{mixed_none}
use Rattle.rc4.proofs.mix_both.Goals as goal

pub loop-k-init : goal.loop-k-init
loop-k-init c = (mixed_none _ _ _ c.requires.2 c.requires.0 c.unstarted-first.ensures, mixed_none _ _ _ c.requires.3 c.requires.1 c.unstarted-second.ensures)
