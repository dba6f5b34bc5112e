-- `listing_text::put_walk` meets its contract: the text so far, and that of what the walker has left, make the whole; before a fault 23
-- bytes of text for each item are enough to bound it.
-- Assumes nothing.
use mathlib.Core.Path.{◌≡◌}
use mathlib.Core.Bool.{false}
use Prim.Native.Nat.{◌+◌, ◌*◌, ◌≤◌}
use lib.ListN.{length}
use Rattle.binary_office.specs.Records.{walk_left, items_left}
use Rattle.listing_text.proofs.Written.{Listed}
use Rattle.listing_text.proofs.put_walk.Given as goal

abbrev pub invariant-loop-record : goal.invariant-loop-record
invariant-loop-record l =
    (l.record-iterator.book.now ≡ l.stream) × (l.record-iterator.pos ≤ length l.stream) × (l.record-iterator.failed ≡ false → l.n + items_left l.record-iterator * 23 ≤ 1000000)
    × (length l.out ≡ length l.initial.out) × Listed l.stream l.initial.n (walk_left l.record-iterator) l.initial.out l.n l.out
