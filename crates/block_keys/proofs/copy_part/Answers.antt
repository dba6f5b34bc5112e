-- `block_keys::copy_part` meets its contract: after i turns the first i places are those of the definition.
-- Assumes nothing.
use mathlib.Core.Path.{refl}
use Prim.Native.Nat.{ℕ, ◌+◌}
use lib.ListN.{get_or}
use Rattle.laws.specs.Offsets.{tabulate}
use Rattle.laws.proofs.Offsets.{tabulate_store}
use borrow.Author.Rules.{rules}
use Rattle.block_keys.proofs.copy_part.Goals as goal

pub loop-i-init : goal.loop-i-init
unfolding tabulate
loop-i-init c = (search rules, search rules, refl)

pub loop-i-preserved : goal.loop-i-preserved
loop-i-preserved c = (
  search rules,
  search rules,
  tabulate_store (λ (i : ℕ). get_or c.args.structure.now (c.args.at + i) 0) c.loop-i.dst c.loop-i.i c.byte_at.result (search rules)
      c.loop-i.invariant.2 c.byte_at.ensures,
)
