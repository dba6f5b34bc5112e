-- A lent buffer that holds some bytes at its front: what that says of the two parts, and how the parts make it.
-- Assumes nothing.
use mathlib.Core.Path.{◌≡◌, sym, ap, ◌∙◌}
use mathlib.Core.Bool.{false}
use mathlib.Core.List.{List, ◌++◌}
use Prim.Native.Nat.{ℕ, ◌+◌, ◌-◌, ◌<◌}
use native.Mathlib.Omega.{arith}
use lib.ListN.{length, get_or, take, drop, length-drop}
use lib.Seq.{get_or-drop, ext_get_or, take-append_seam, drop-append_seam}
use Rattle.std.specs.Prelude.{◌↔◌, IsTrue}
use Rattle.std.proofs.lemmas.Bool.{false≢true}
use Rattle.std.proofs.lemmas.List.{take-append-drop}
use Rattle.laws.specs.Offsets.{tabulate}
use Rattle.laws.proofs.Offsets.{length_tabulate, get_d_tabulate}
use Rattle.samples.specs.Sample.{lent_at}

module _ (front buffer rest : List ℕ) (q : rest ≡ drop (length front) buffer) where
  abbrev as_lent : List ℕ
  as_lent = tabulate lent_at (length buffer)

  abbrev pub Held : Type 0
  Held = buffer ≡ front ++ drop (length front) as_lent

  pub front_held : Held → take (length front) buffer ≡ front
  front_held e = ap (take (length front)) e ∙ take-append_seam front (drop (length front) as_lent)

  pub length_rest : length rest ≡ length buffer - length front
  length_rest = ap length q ∙ length-drop (length front) buffer

  pub at_rest : (i : ℕ) → get_or rest i 0 ≡ get_or buffer (length front + i) 0
  at_rest i = ap (λ (l : List ℕ). get_or l i 0) q ∙ get_or-drop (length front) buffer i 0

  length_lent : length (drop (length front) as_lent) ≡ length buffer - length front
  length_lent = length-drop (length front) as_lent ∙ ap (λ (n : ℕ). n - length front) (length_tabulate lent_at (length buffer))

  byte_lent : (i : ℕ) → i < length rest → get_or (drop (length front) as_lent) i 0 ≡ lent_at (length front + i)
  byte_lent i h =
      let r = length_rest in
      get_or-drop (length front) as_lent i 0 ∙ get_d_tabulate lent_at (length buffer) (length front + i) 0 (omega arith)

  pub byte_held : Held → (i : ℕ) → i < length rest → get_or rest i 0 ≡ lent_at (length front + i)
  byte_held e i h =
      let r : rest ≡ drop (length front) as_lent = q ∙ ap (drop (length front)) e ∙ drop-append_seam front (drop (length front) as_lent) in
      ap (λ (l : List ℕ). get_or l i 0) r ∙ byte_lent i h

  pub held : take (length front) buffer ≡ front → ((i : ℕ) → i < length rest → get_or rest i 0 ≡ lent_at (length front + i)) → Held
  held e f =
      let r : rest ≡ drop (length front) as_lent =
      ext_get_or 0 rest (drop (length front) as_lent) (length_rest ∙ sym length_lent) (λ i h. f i h ∙ sym (byte_lent i h)) in
      sym (take-append-drop (length front) buffer) ∙ ap (λ (l : List ℕ). l ++ drop (length front) buffer) e ∙ ap (λ (l : List ℕ). front ++ l) (sym q ∙ r)

  pub not_held : (Held → ⊥) → IsTrue false ↔ Held
  not_held f = (λ h. absurd (false≢true h), λ e. absurd (f e))
