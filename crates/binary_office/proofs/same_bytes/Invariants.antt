-- `binary_office::same_bytes`: the bytes that the loop has passed are the same in both slices.
-- Assumes nothing.
use Rattle.std.proofs.Common.{ℕ, ◌≡◌, ◌<◌, slice_index_or}
use Rattle.binary_office.proofs.same_bytes.Given as goal

abbrev pub invariant-loop-i : goal.invariant-loop-i
invariant-loop-i l = (k : ℕ) → k < l.i → slice_index_or l.a k 0 ≡ slice_index_or l.b k 0
