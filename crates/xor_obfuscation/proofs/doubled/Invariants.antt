-- `xor_obfuscation::doubled` meets its contract: after i turns the first i bytes of the array stand in both halves.
-- Assumes nothing.
use Rattle.xor_obfuscation.proofs.Pieces.{Both}
use Rattle.xor_obfuscation.proofs.doubled.Given as goal

abbrev pub invariant-loop-i : goal.invariant-loop-i
invariant-loop-i l = Both l.array l.twice l.i
