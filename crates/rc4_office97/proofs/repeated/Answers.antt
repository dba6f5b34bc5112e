-- `rc4_office97::repeated` meets its contract: after `i` turns the first `i` bytes are those of the list sixteen times over.
-- Assumes nothing.
use Prim.Native.Nat.{ℕ, ◌%◌}
use mathlib.Core.Path.{◌≡◌, refl, sym, ◌∙◌}
use mathlib.Core.List.{[]}
use native.Mathlib.Omega.{arith}
use borrow.Author.Rules.{rules}
use lib.ListN.{get_or}
use lib.Seq.{take_all}
use Rattle.laws.specs.Offsets.{tabulate}
use Rattle.laws.proofs.Offsets.{tabulate_store}
use Rattle.rc4_office97.proofs.Laws.{times_listed}
use Rattle.rc4_office97.proofs.repeated.Goals as goal

none : (f : ℕ → ℕ) → [] ≡ tabulate f 0
unfolding tabulate
none f = refl

pub loop-i-init : goal.loop-i-init
loop-i-init c = (omega arith, search rules, search rules, none _)

pub loop-i-preserved : goal.loop-i-preserved
loop-i-preserved c = (omega arith, c.loop-i.invariant.1, search rules, tabulate_store (λ (k : ℕ). get_or c.args.unit (k % 21) 0) c.loop-i.m c.loop-i.i _ (omega arith) c.loop-i.invariant.3 refl)

pub returns : goal.returns
returns c = let e : c.loop-i.i ≡ 336 = omega arith in
    sym (take_all 336 c.loop-i.m (omega arith)) ∙ rw e at c.loop-i.invariant.3 ∙ times_listed c.args.unit c.loop-i.invariant.1 16
