-- A part of a buffer that was lent and came back: what stood before it and behind it is as it was.
-- Assumes nothing.
use mathlib.Core.Path.{◌≡◌, ◌∙◌}
use mathlib.Core.List.{List, ◌++◌}
use Prim.Native.Nat.{ℕ, ◌-◌, ◌≤◌, min}
use native.Mathlib.Omega.{arith}
use lib.ListN.{length, take, drop, length-append, length-take, length-drop}

pub length_back : (xs ys : List ℕ) (a k : ℕ) → a ≤ length xs → length ys ≡ length (take k (drop a xs)) → length (take a xs ++ (ys ++ drop k (drop a xs))) ≡ length xs
length_back xs ys a k h e =
    let g : length ys ≡ min k (length xs - a) = e ∙ simp (length-take, length-drop) in
    simp (length-append, length-take, length-drop) (omega arith)
