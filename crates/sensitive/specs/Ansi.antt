-- The XOR password of document 01: 1 to 15 characters up to U+00FF, one byte each.
-- Assumes nothing.
use Rattle.std.specs.Prelude.{ℕ, Bool, true, ◌&&◌, List, [], ◌∷◌, leb, length, Option, Some, None}
use Rattle.laws.specs.Choice.{pick, within}
use Rattle.sensitive.specs.Utf8.{points}

-- every code point is at most FF
abbrev pub narrow : List ℕ → Bool
narrow [] = true
narrow (p ∷ ps) = leb p 0xFF && narrow ps

-- the bytes, or none
unfoldable pub ansi : List ℕ → Option (List ℕ)
unfolding pick points
ansi s = elim (points s) [ None ↦ None | Some ps ↦ pick (within 1 15 (length ps) && narrow ps) (Some ps) None ]
