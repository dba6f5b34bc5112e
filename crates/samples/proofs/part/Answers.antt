-- `samples::part` meets its contract: the part lies within where both look-ups find it.
-- Assumes nothing.
use mathlib.Core.Path.{◌≡◌, refl, ◌∙◌}
use mathlib.Core.List.{List, []}
use mathlib.Core.Logic.{inl, inr}
use Prim.Native.Nat.{ℕ, ◌+◌, ◌<◌, ◌≤◌}
use native.Mathlib.Nat.{sub-zero}
use native.Mathlib.Omega.{arith}
use borrow.Author.Tests.{le-leb, lt-leb}
use lib.ListN.{length, drop, length-drop}
use lib.Seq.{take_all}
use Rattle.std.specs.Prelude.{slice_range}
use Rattle.laws.proofs.Choice.{stop, skip}
use Rattle.samples.specs.Sample.{part_at}
use Rattle.samples.proofs.part.Goals as goal

module _ (d : List ℕ) (at len : ℕ) where
  outside : length d < at + len → [] ≡ part_at d at len
  unfolding part_at
  outside h = skip _ (lt-leb _ _ h) refl

  inside : (rest part : List ℕ) → rest ≡ slice_range d at (length d) → part ≡ slice_range rest 0 len → at ≤ length d → length rest + at ≡ length d → len ≤ length rest
      → part ≡ part_at d at len
  unfolding part_at
  inside rest part e f h l k =
      let r : rest ≡ drop at d = e ∙ take_all _ (drop at d) (simp length-drop (omega arith)) in
      rw (f, sub-zero, r) (stop _ (le-leb _ _ (omega arith)))

pub returns-in_default : goal.returns-in_default
returns-in_default c =
    let h : length c.args.d.now < c.args.at + c.args.len = elim c.in_default.ensures.lookup.0 [ inl h ↦ omega arith | inr h ↦ omega arith ] in
    outside _ _ _ h

pub returns-in_default-get : goal.returns-in_default-get
returns-in_default-get c =
    let e = c.in-Some.ensures.lookup.0 in
    let h : length c.args.d.now < c.args.at + c.args.len = elim c.in_default-get.ensures.lookup.0 [ inl h ↦ omega arith | inr h ↦ omega arith ] in
    outside _ _ _ h

pub returns : goal.returns
returns c =
    let e = c.in-Some.ensures.lookup.0 in
    let f = c.in-Some-get.ensures.lookup.0 in
    inside _ _ _ _ _ e.2 f.2 e.0 e.3 f.1
