-- `password_digest::hash_text` meets its contract: the loop's invariant is that the hash of the whole is that of what is in the block and to come, from the
-- value so far on. The measure goes down with each byte that is taken, and so with each block.
-- Assumes nothing.
use Rattle.std.proofs.Common.{◌≡◌, ℕ, ◌+◌, List, length}
use Rattle.password_digest.specs.Filling.{left}
use Rattle.password_digest.proofs.Filling.{Hashes}
use Rattle.password_digest.proofs.hash_text.Given as goal

abbrev pub invariant-loop-f : goal.invariant-loop-f
invariant-loop-f g l =
    let b = g.H.BlockHash in
    (length l.block ≡ 64)
    × ((m : List ℕ) → Hashes b.after_block b.size_bytes l.total l.text l.initial.h m l.initial.h l.initial.block l.initial.f.place.at l.initial.f.place.skip l.initial.f.n
    → Hashes b.after_block b.size_bytes l.total l.text l.initial.h m l.h l.block l.f.place.at l.f.place.skip l.f.n)

abbrev pub decreases-loop-f : goal.decreases-loop-f
decreases-loop-f g l = left l.text l.f.place.at l.f.place.skip + l.f.n
