-- `xor_obfuscation::doubled` meets its contract: after i turns the first i bytes of the array stand in both halves.
-- Assumes nothing.
use Rattle.std.proofs.Common.{◌≡◌, refl, arith}
use native.Mathlib.Nat.{not-suc-le-zero}
use Rattle.xor_obfuscation.proofs.Pieces.{both_more, both_all}
use Rattle.xor_obfuscation.proofs.doubled.Goals as goal

pub loop-i-init : goal.loop-i-init
loop-i-init c = record { long = refl; low = λ k h. absurd (not-suc-le-zero h); high = λ k h. absurd (not-suc-le-zero h) }

pub loop-i-preserved : goal.loop-i-preserved
loop-i-preserved c = both_more c.args.array.now c.loop-i.twice c.loop-i.i (omega arith) c.loop-i.invariant

pub returns : goal.returns
returns c = let e : c.loop-i.i ≡ 16 = omega arith in both_all c.args.array.now c.loop-i.twice (rw e at c.loop-i.invariant)
