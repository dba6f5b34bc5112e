-- `password_digest::fill` meets its contract: the loop's invariant is that the block's bytes and those to come make the same as at the start,
-- and that the bytes left go down by one for each that is put.
-- Assumes nothing.
use Rattle.std.proofs.Common.{◌≡◌, ℕ, ◌+◌, ◌≤◌, List, length}
use Rattle.password_digest.specs.Filling.{Goes, left}
use Rattle.password_digest.proofs.fill.Given as goal

abbrev pub invariant-loop-i : goal.invariant-loop-i
invariant-loop-i l = (length l.block ≡ 64) × (left l.text l.place.at l.place.skip + l.i ≤ left l.text l.fn.place.at l.fn.place.skip + l.n)
    × ((m : List ℕ) → Goes l.text l.initial.block l.fn.place.at l.fn.place.skip l.n m → Goes l.text l.block l.place.at l.place.skip l.i m)
