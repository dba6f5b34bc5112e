-- `xor_obfuscation::char_key` meets its contract: after n turns the key has the first n bits of the character.
-- Assumes nothing.
use Rattle.std.proofs.Common.{◌≡◌}
use Rattle.xor_obfuscation.specs.Xor.{char_bits}
use Rattle.xor_obfuscation.proofs.char_key.Given as goal

abbrev pub invariant-loop-n : goal.invariant-loop-n
invariant-loop-n l = l.key ≡ char_bits l.c l.element l.initial.key l.n
