-- `block_keys::copy_part` meets its contract: after i turns the first i places are those of the definition.
-- Assumes nothing.
use mathlib.Core.Path.{◌≡◌}
use Prim.Native.Nat.{◌≤◌}
use lib.ListN.{length, take}
use Rattle.block_keys.specs.Lock.{part}
use Rattle.block_keys.proofs.copy_part.Given as goal

abbrev pub invariant-loop-i : goal.invariant-loop-i
invariant-loop-i l = (l.i ≤ length l.initial.dst) × (length l.dst ≡ length l.initial.dst) × (take l.i l.dst ≡ part l.structure l.at l.i)
