-- `rc4::mix_both` meets its contract: after k turns the tables and the locals are both mixings after the first 2 * k values.
-- Assumes nothing.
use Rattle.std.proofs.Common.{◌*◌}
use Rattle.rc4.specs.Steps.{MixedTo}
use Rattle.rc4.proofs.mix_both.Given as goal

abbrev pub invariant-loop-k : goal.invariant-loop-k
invariant-loop-k l = MixedTo l.key (2 * l.k) l.first l.s.entries × MixedTo l.other (2 * l.k) l.second l.t.entries
