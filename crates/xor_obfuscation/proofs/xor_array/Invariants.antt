-- `xor_obfuscation::xor_array` meets its contract: after i turns the first i places are those of the definition.
-- Assumes nothing.
use Rattle.std.proofs.Common.{◌≡◌, length, take}
use Rattle.laws.specs.Offsets.{tabulate}
use Rattle.xor_obfuscation.specs.Xor.{xor_array_at}
use Rattle.xor_obfuscation.proofs.xor_array.Given as goal

abbrev pub invariant-loop-i : goal.invariant-loop-i
invariant-loop-i l = (length l.b-items ≡ 16) × (take l.i l.b-items ≡ tabulate (xor_array_at l.password l.key) l.i)
