-- `rc4::Permutation::mix_all` meets its contract: after i turns the entries and the local are the mixing after the first i values.
-- Assumes nothing.
use Rattle.rc4.proofs.Steps.{mixed_none}
use Rattle.rc4.proofs.Permutation.mix_all.Goals as goal

pub loop-i-init : goal.loop-i-init
loop-i-init c = mixed_none _ _ _ c.requires.1 c.requires.0 c.unstarted-at.ensures
