-- `sensitive::well_formed` meets its contract: a text has a length in UTF-16LE exactly where it is well formed.
-- Assumes nothing.
use Prim.Native.Nat.{ℕ}
use mathlib.Core.Path.{◌≡◌, refl}
use mathlib.Core.List.{List}
use Rattle.std.specs.Prelude.{is_some, Option, None, Some}
use Rattle.sensitive.specs.Utf8.{points, well_formed}
use Rattle.sensitive.specs.Utf16.{encoded, length_of}
use Rattle.sensitive.proofs.well_formed.Goals as goal

formed : (s : List ℕ) → is_some (length_of (encoded s)) ≡ well_formed s
unfolding well_formed
formed s = go (points s) refl
  where
    go : (o : Option (List ℕ)) → points s ≡ o → is_some (length_of (encoded s)) ≡ well_formed s
    go None e = rw (e, well_formed)
    go (Some ps) e = rw (e, well_formed)

pub returns : goal.returns
returns c = rw (c.is_some.ensures, c.utf16le_len.ensures) (formed _)
