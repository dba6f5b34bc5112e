-- `rc4::Permutation::mix_all` meets its contract: after i turns the entries and the local are the mixing after the first i values.
-- Assumes nothing.
use Rattle.rc4.specs.Steps.{MixedTo}
use Rattle.rc4.proofs.Permutation.mix_all.Given as goal

abbrev pub invariant-loop-i : goal.invariant-loop-i
invariant-loop-i l = MixedTo l.key l.i l.at l.self.entries
