-- The XOR password's bytes, its key and its array, from what the functions answer. A password of 1 to 15 characters up to U+00FF has bytes and a key, any other has neither.
-- Assumes nothing.
use Rattle.std.specs.Prelude.{Option, None, Some}
use mathlib.Core.Path.{◌≡◌, refl}
use mathlib.Core.Bool.{Bool, true, false, ◌&&◌}
use mathlib.Core.List.{List}
use Prim.Native.Nat.{ℕ}
use lib.ListN.{length}
use Rattle.laws.specs.Choice.{pick, within}
use Rattle.laws.proofs.Choice.{taken}
use Rattle.sensitive.specs.Utf8.{points}
use Rattle.sensitive.specs.Ansi.{ansi, narrow}
use Rattle.xor_obfuscation.specs.Xor.{key_of, xor_key}

abbrev pub Sized : Option (List ℕ) → Type 0
Sized o = (bs : List ℕ) → o ≡ Some bs → within 1 15 (length bs) ≡ true

pub sized : (p : List ℕ) → Sized (ansi p)
unfolding ansi pick
sized p = by_points (points p)
  where
    go : (ps : List ℕ) (t u : Bool) → within 1 15 (length ps) ≡ t → Sized (pick (t && u) (Some ps) None)
    go ps true true e bs g = let h : ps ≡ bs = cc in rw (← h) e
    go ps true false e bs g = cc
    go ps false u e bs g = cc

    by_points : (o : Option (List ℕ)) → Sized (elim o [ None ↦ None | Some ps ↦ pick (within 1 15 (length ps) && narrow ps) (Some ps) None ])
    by_points None bs g = cc
    by_points (Some ps) bs g = go ps (within 1 15 (length ps)) (narrow ps) refl bs g

key_of_lem : (bs : List ℕ) → within 1 15 (length bs) ≡ true → key_of bs ≡ Some (xor_key bs)
unfolding key_of
key_of_lem bs e = taken (Some (xor_key bs)) None e

-- a password's bytes have a key
module _ (p bs : List ℕ) (e : ansi p ≡ Some bs) where
  pub keyed_bytes : key_of bs ≡ Some (xor_key bs)
  keyed_bytes = key_of_lem bs (sized p bs e)
