-- `block_keys::decrypt_rest` meets its contract: the blocks up to the offset are written, and only the last may be cut.
-- Assumes nothing.
use mathlib.Core.Path.{◌≡◌}
use Prim.Native.Nat.{◌+◌, ◌-◌, ◌*◌, ◌≤◌, ◌<◌}
use Rattle.laws.proofs.Written.{Written}
use Rattle.block_keys.specs.BlockKeys.{block_key, deciphered_at}
use Rattle.block_keys.proofs.decrypt_rest.Given as goal

abbrev pub invariant-loop-at : goal.invariant-loop-at
invariant-loop-at l = (l.from * l.size ≤ l.at) × (l.at ≤ l.n) × (l.at < l.n → l.at ≡ l.block * l.size) × (l.at ≤ l.block * l.size) × (l.block * l.size < l.at + l.size)
    × Written (deciphered_at l.size (block_key l.schedule) l.src) (l.from * l.size) l.at l.initial.dst l.dst

abbrev pub decreases-loop-at : goal.decreases-loop-at
decreases-loop-at l = l.n - l.at
