-- `rc4::Permutation::unmixed` meets its contract: after i turns the first i entries are 0 to i - 1.
-- Assumes nothing.
use Rattle.std.proofs.Common.{ℕ, refl, arith}
use Rattle.std.proofs.Math.ListN.{length-set}
use Rattle.laws.specs.Offsets.{tabulate}
use Rattle.laws.proofs.Offsets.{tabulate_store}
use Rattle.rc4.proofs.Table.{filled}
use Rattle.rc4.proofs.Rearranged.{identity_rearranged}
use Rattle.rc4.proofs.Permutation.unmixed.Goals as goal

pub loop-i-init : goal.loop-i-init
unfolding tabulate
loop-i-init c = (refl, refl)

pub loop-i-preserved : goal.loop-i-preserved
loop-i-preserved c = (simp length-set c.loop-i.invariant.0, tabulate_store (λ (n : ℕ). n) c.loop-i.entry-items c.loop-i.i _ (omega arith) c.loop-i.invariant.1 refl)

pub invariant_of-result : goal.invariant_of-result
invariant_of-result c = record { rearranged = rw (filled c.loop-i.i c.loop-i.entry-items (omega arith) c.loop-i.invariant.0 c.loop-i.invariant.1) identity_rearranged }

pub returns : goal.returns
returns c = filled c.loop-i.i c.loop-i.entry-items (omega arith) c.loop-i.invariant.0 c.loop-i.invariant.1
