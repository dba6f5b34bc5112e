-- `samples::number` meets its contract: the number lies within where both look-ups find its bytes.
-- Assumes nothing.
use mathlib.Core.Path.{◌≡◌, refl, ap, ◌∙◌}
use mathlib.Core.List.{List}
use mathlib.Core.Logic.{inl, inr}
use Prim.Native.Nat.{ℕ, ◌+◌, ◌<◌, ◌≤◌}
use native.Mathlib.Omega.{arith}
use borrow.Author.Tests.{le-leb, lt-leb}
use native.Mathlib.Nat.{add-zero}
use lib.ListN.{length, get_or, take, drop, length-drop}
use lib.Seq.{take_all, get_or-take, get_or-drop}
use Rattle.std.specs.Prelude.{slice_range}
use Rattle.std.specs.Int.{w32, from_le_bytes}
use Rattle.laws.proofs.Choice.{stop, skip}
use Rattle.word.specs.Word.{le32}
use Rattle.samples.specs.Sample.{number_at}
use Rattle.samples.proofs.number.Goals as goal

module _ (d : List ℕ) (at : ℕ) where
  outside : length d < at + 4 → 0 ≡ number_at d at
  unfolding number_at
  outside h = skip _ (lt-leb _ _ h) refl

  inside : (n : ℕ) (rest : List ℕ) → at + 4 ≤ length d → rest ≡ slice_range d at (length d) → n ≡ from_le_bytes w32 (take 4 rest) → n ≡ number_at d at
  unfolding number_at le32
  inside n rest h r e =
      let q : rest ≡ drop at d = r ∙ take_all _ (drop at d) (simp length-drop (omega arith)) in
      let g : (i : ℕ) → i < 4 → get_or (take 4 rest) i 0 ≡ get_or d (at + i) 0 = λ i k. rw q (get_or-take 4 (drop at d) i 0 k ∙ get_or-drop at d i 0) in
      let a = rw add-zero at (g 0 (omega arith)) in
      let b = g 1 (omega arith) in
      let c = g 2 (omega arith) in
      let f = g 3 (omega arith) in
      let w : n ≡ le32 d at = omega arith in
      w ∙ stop _ (le-leb _ _ h)

pub returns-in_default-clause-value : goal.returns-in_default-clause-value
returns-in_default-clause-value c =
    let h : length c.args.d.now < c.args.at + 4 = elim c.in_default.ensures.lookup.0 [ inl h ↦ omega arith | inr h ↦ omega arith ] in
    outside _ _ h

pub returns-in_default-first_chunk-clause-value : goal.returns-in_default-first_chunk-clause-value
returns-in_default-first_chunk-clause-value c =
    let e = c.in-Some.ensures.lookup.0 in
    let f = c.in_default-first_chunk.ensures.cases in
    outside _ _ (omega arith)

pub returns-clause-value : goal.returns-clause-value
returns-clause-value c =
    let e = c.in-Some.ensures.lookup.0 in
    let f = c.in-Some-first_chunk.ensures.cases in
    let k = f.enough in
    inside _ _ _ _ (omega arith) e.2 (c.from_le_bytes.ensures ∙ ap (from_le_bytes w32) f.same)
