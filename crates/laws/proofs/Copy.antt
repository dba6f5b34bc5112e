-- A loop that copies a list into another, one store a turn.
-- Assumes nothing.
use mathlib.Core.Path.{◌≡◌, ◌∙◌, ap, sym}
use mathlib.Core.List.{List}
use Prim.Native.Nat.{ℕ, ◌+◌, ◌<◌}
use native.Mathlib.Numerals.{add-one}
use native.Mathlib.Nat.{zero-add}
use native.Mathlib.Omega.{arith}
use lib.ListN.{length, get_or, drop, set, length-drop}
use lib.Seq.{paste, paste-suc, get_or-drop}

pub copy_more : (d : List ℕ) (at : ℕ) (s : List ℕ) (i : ℕ) (b : List ℕ) (x : ℕ) → at + i < length d → i < length s → b ≡ paste d at s i → x ≡ get_or s i 0
    → set b (at + i) x ≡ paste d at s (i + 1)
copy_more d at s i b x h k e g = rw (e, g, add-one i) (paste-suc d at s i 0 h k)

-- the same at the start of the list, from an offset of the other
pub copy_from : (d s : List ℕ) (from i : ℕ) (b : List ℕ) (x : ℕ) → i < length d → from + i < length s → b ≡ paste d 0 (drop from s) i → x ≡ get_or s (from + i) 0
    → set b i x ≡ paste d 0 (drop from s) (i + 1)
copy_from d s from i b x h k e g =
    let j : 0 + i < length d = rw (zero-add i) h in
    let l : i < length (drop from s) = simp length-drop (omega arith) in
    ap (λ (n : ℕ). set b n x) (sym (zero-add i)) ∙ copy_more d 0 (drop from s) i b x j l e (g ∙ sym (get_or-drop from s i 0))
