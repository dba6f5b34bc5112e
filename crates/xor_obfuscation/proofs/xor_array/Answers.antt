-- `xor_obfuscation::xor_array` meets its contract: after i turns the first i places are those of the definition.
-- Assumes nothing.
use Rattle.std.proofs.Common.{◌≡◌, refl, sym, ◌∙◌, arith}
use Rattle.std.proofs.Math.ListN.{length-set}
use native.Mathlib.Nat.{le_of_eq}
use lib.Seq.{take_all}
use Rattle.word.specs.Word.{rotr}
use Rattle.laws.specs.Offsets.{tabulate}
use Rattle.laws.proofs.Offsets.{tabulate_store}
use Rattle.xor_obfuscation.specs.Xor.{xor_array, xor_array_at}
use Rattle.xor_obfuscation.proofs.xor_array.Goals as goal

pub loop-i-init : goal.loop-i-init
unfolding tabulate
loop-i-init c = (refl, refl)

pub loop-i-preserved : goal.loop-i-preserved
unfolding rotr
loop-i-preserved c = let x : c.rotate_right.result ≡ xor_array_at c.args.password.now c.args.key c.loop-i.i = c.rotate_right.ensures ∙ rw (c.source.ensures, c.half.ensures) refl in
    (simp length-set c.loop-i.invariant.0, tabulate_store (xor_array_at c.args.password.now c.args.key) c.loop-i.b-items c.loop-i.i c.rotate_right.result (omega arith) c.loop-i.invariant.1 x)

pub returns : goal.returns
unfolding xor_array
returns c = let e : c.loop-i.i ≡ 16 = omega arith in
    sym (take_all 16 c.loop-i.b-items (le_of_eq c.loop-i.invariant.0)) ∙ (rw e at c.loop-i.invariant.1)
