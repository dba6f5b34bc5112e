-- `samples::lend_piece` meets its contract: after i turns the first i bytes of the piece are those that are lent.
-- Assumes nothing.
use Prim.Native.Nat.{◌+◌}
use Rattle.laws.proofs.Written.{Written}
use Rattle.samples.specs.Sample.{lent_at}
use Rattle.samples.proofs.lend_piece.Given as goal

abbrev pub invariant-loop-i : goal.invariant-loop-i
invariant-loop-i l = Written lent_at l.at (l.at + l.i) l.initial.buffer l.buffer
