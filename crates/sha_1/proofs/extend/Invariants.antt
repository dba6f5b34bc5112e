-- `sha_1::extend` meets its contract: each turn makes one word more from four before it.
-- Assumes nothing.
use Rattle.std.proofs.Common.{◌≡◌, ℕ, List, length, take}
use Rattle.sha_1.specs.Sha1.{schedule}
use Rattle.sha_1.proofs.extend.Given as goal

abbrev pub invariant-loop-t : goal.invariant-loop-t
invariant-loop-t l = (length l.w ≡ 80) × ((m : List ℕ) → take l.from l.initial.w ≡ schedule m l.from → take l.t l.w ≡ schedule m l.t)
