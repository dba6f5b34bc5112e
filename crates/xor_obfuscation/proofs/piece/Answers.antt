-- `xor_obfuscation::piece` meets its contract: after i turns the first i bytes are put through.
-- Assumes nothing.
use Rattle.std.proofs.Common.{ℕ, ◌+◌, get_or, refl, arith}
use Rattle.std.proofs.Math.ListN.{length-set}
use Rattle.laws.specs.Offsets.{tabulate}
use Rattle.laws.proofs.Offsets.{tabulate_store}
use Rattle.xor_obfuscation.specs.Xor.{ciphered}
use Rattle.xor_obfuscation.proofs.piece.Goals as goal

pub loop-i-init : goal.loop-i-init
unfolding tabulate
loop-i-init g c = (refl, refl)

pub loop-i-preserved : goal.loop-i-preserved
loop-i-preserved g c = (
  simp length-set c.loop-i.invariant.0,
  tabulate_store (λ (n : ℕ). ciphered g.D.Direction.way (get_or c.args.src.now (c.args.at + n) 0) (get_or c.args.twice.now (c.args.start + n) 0)) c.loop-i.b-items c.loop-i.i c.byte.result (omega arith) c.loop-i.invariant.1 c.byte.ensures,
)
