-- `rc4::Permutation::give` meets its contract: after k turns the entries and the local are the keystream after k bytes, and the first k bytes are written.
-- Assumes nothing.
use Rattle.std.proofs.Common.{◌≡◌, ◌+◌, ◌%◌}
use Rattle.laws.proofs.Written.{Written}
use Rattle.rc4.specs.Rc4.{byte_from}
use Rattle.rc4.proofs.Steps.{SteppedTo}
use Rattle.rc4.proofs.Permutation.give.Given as goal

abbrev pub invariant-loop-k : goal.invariant-loop-k
invariant-loop-k l = (l.i ≡ (l.k + 1) % 256)
    × SteppedTo (record { table = l.initial.self.entries; i = 0; j = 0 }) l.k l.at l.self.entries
    × Written (byte_from (record { table = l.initial.self.entries; i = 0; j = 0 })) 0 l.k l.initial.dst l.dst
