-- `rc4::give_both` meets its contract: after k turns the tables and the locals are the two keystreams after k bytes, and the first k bytes of each half are
-- written.
-- Assumes nothing.
use Rattle.std.proofs.Common.{◌≡◌, ◌+◌, ◌%◌}
use Rattle.rc4.specs.Steps.{given_halves}
use Rattle.rc4.proofs.Halves.{Sides}
use Rattle.rc4.proofs.Steps.{SteppedTo}
use Rattle.rc4.proofs.give_both.Given as goal

abbrev pub invariant-loop-k : goal.invariant-loop-k
invariant-loop-k l = (l.i ≡ (l.k + 1) % 256)
    × SteppedTo (record { table = l.initial.s.entries; i = 0; j = 0 }) l.k l.first l.s.entries
    × SteppedTo (record { table = l.initial.t.entries; i = 0; j = 0 }) l.k l.second l.t.entries
    × Sides (given_halves (record { table = l.initial.s.entries; i = 0; j = 0 }) (record { table = l.initial.t.entries; i = 0; j = 0 }) l.h) l.h l.k l.initial.dst l.dst
