-- The walk with the padding is the walk without it, and the text is of the walk.
-- Assumes nothing.
use Prim.Native.Nat.{◌+◌}
use native.Mathlib.Omega.{arith}
use borrow.Author.Tests.{le-leb}
use lib.ListN.{length}
use Rattle.binary_office.proofs.Remainder.{padded_length, remainders}
use Rattle.listing_text.specs.Text.{text}
use Rattle.listing_text.specs.Padded.{ShowsNothing}

pub shows_nothing : ShowsNothing
unfolding text
shows_nothing s n filled most fits =
    let w = remainders.padding s n filled most in
    rw (padded_length s n, le-leb (length s + n) 32768 fits, le-leb (length s) 32768 (omega arith), w.records, w.ends)
