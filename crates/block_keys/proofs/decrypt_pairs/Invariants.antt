-- `block_keys::decrypt_pairs` meets its contract: the blocks up to the offset are written.
-- Assumes nothing.
use mathlib.Core.Path.{◌≡◌}
use Prim.Native.Nat.{◌-◌, ◌*◌, ◌≤◌}
use Rattle.laws.proofs.Written.{Written}
use Rattle.block_keys.specs.BlockKeys.{block_key, deciphered_at}
use Rattle.block_keys.proofs.decrypt_pairs.Given as goal

abbrev pub invariant-loop-at : goal.invariant-loop-at
invariant-loop-at l = (l.at ≡ l.block * l.size) × (l.at ≤ l.n) × Written (deciphered_at l.size (block_key l.schedule) l.src) 0 l.at l.initial.dst l.dst

abbrev pub decreases-loop-at : goal.decreases-loop-at
decreases-loop-at l = l.n - l.at
