-- `rc4::following_index` meets its contract: the index before the key's end is the one that one more takes to it.
-- Assumes nothing.
use mathlib.Core.Path.{◌≡◌, sym}
use Prim.Native.Nat.{◌+◌}
use native.Mathlib.Omega.{arith}
use Rattle.rc4.proofs.Carried.{following_end, following_more}
use Rattle.rc4.proofs.following_index.Goals as goal

pub returns-then-index-len : goal.returns-then-index-len
returns-then-index-len c = let end : c.args.index + 1 ≡ c.args.len = omega arith in
    sym (following_end c.args.len c.args.index end)

pub returns-else-index-len : goal.returns-else-index-len
returns-else-index-len c = let before_end : c.args.index + 1 ≡ c.args.len → ⊥ = λ e. omega arith in
    sym (following_more c.args.len c.args.index before_end)
