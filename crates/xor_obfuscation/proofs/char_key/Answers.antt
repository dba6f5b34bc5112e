-- `xor_obfuscation::char_key` meets its contract: after n turns the key has the first n bits of the character.
-- Assumes nothing.
use Rattle.std.proofs.Common.{◌≡◌, ◌-◌, ◌/◌, ◌%◌, ◌^◌, refl, arith}
use Rattle.xor_obfuscation.proofs.Derived.{bits_more, bits_none}
use Rattle.xor_obfuscation.proofs.char_key.Goals as goal

pub loop-n-init : goal.loop-n-init
loop-n-init c = bits_none _ _ _

pub loop-n-preserved : goal.loop-n-preserved
loop-n-preserved c =
    bits_more c.args.c c.args.element c.args.key c.loop-n.key c.toggled-key.result c.loop-n.n (c.args.c / 2 ^ (6 - c.loop-n.n) % 2) c.loop-n.invariant refl c.toggled-key.ensures

pub returns : goal.returns
returns c = let e : c.loop-n.n ≡ 7 = omega arith in rw e at c.loop-n.invariant
