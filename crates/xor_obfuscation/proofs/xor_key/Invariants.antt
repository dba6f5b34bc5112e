-- `xor_obfuscation::xor_key` meets its contract: the loop has taken the characters from n on, seven elements for each.
-- Assumes nothing.
use Rattle.std.proofs.Common.{◌≡◌, drop}
use Rattle.xor_obfuscation.specs.Xor.{key_from}
use Rattle.xor_obfuscation.proofs.xor_key.Given as goal

abbrev pub invariant-loop-n : goal.invariant-loop-n
invariant-loop-n l = l.key ≡ key_from l.initial.key (drop l.n l.password)
