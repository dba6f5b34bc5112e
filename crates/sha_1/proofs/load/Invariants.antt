-- `sha_1::load` meets its contract: after each turn one word more of the block is loaded.
-- Assumes nothing.
use Rattle.std.proofs.Common.{◌≡◌, length, take}
use Rattle.sha_1.specs.Sha1.{schedule}
use Rattle.sha_1.proofs.load.Given as goal

abbrev pub invariant-loop-t : goal.invariant-loop-t
invariant-loop-t l = (length l.w ≡ 80) × (take l.t l.w ≡ schedule l.block l.t)
