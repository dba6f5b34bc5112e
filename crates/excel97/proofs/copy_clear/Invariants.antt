-- `excel97::copy_clear` meets its contract: one store more a turn, from the end of the header on.
-- Assumes nothing.
use Prim.Native.Nat.{ℕ}
use lib.ListN.{get_or}
use Rattle.laws.proofs.Written.{Written}
use Rattle.excel97.proofs.copy_clear.Given as goal

abbrev pub invariant-loop-i : goal.invariant-loop-i
invariant-loop-i l = Written (λ (o : ℕ). get_or l.src o 0) l.at l.i l.initial.dst l.dst
