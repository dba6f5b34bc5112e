-- `rc4::Keystream::apply` meets its contract: after k turns the locals are the keystream after k bytes, and the first k bytes are written.
-- Assumes nothing.
use Rattle.std.proofs.Common.{◌≡◌, ◌<◌, length}
use Rattle.laws.proofs.Written.{Written}
use Rattle.rc4.specs.Rc4.{after, applied}
use Rattle.rc4.proofs.Keystream.apply.Given as goal

abbrev pub invariant-loop-k : goal.invariant-loop-k
invariant-loop-k l = (length l.self.table ≡ 256) × (l.i < 256) × (l.j < 256)
    × (record { table = l.self.table; i = l.i; j = l.j } ≡ after l.initial.self l.k) × Written (applied l.initial.self l.src) 0 l.k l.initial.dst l.dst
