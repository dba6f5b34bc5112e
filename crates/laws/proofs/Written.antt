-- An output of which a part is written: from a up to e it holds f at each offset, and elsewhere what it held.
-- One store extends such a part by one, two parts that touch are one, and a part that starts at 0 is a list and the rest.
-- Assumes nothing.
use mathlib.Core.Path.{◌≡◌, refl, sym, ap, ◌∙◌}
use mathlib.Core.List.{List, ◌++◌}
use Prim.Native.Nat.{ℕ, ◌+◌, ◌-◌, ◌≤◌, ◌<◌}
use native.Mathlib.Omega.{arith}
use lib.ListN.{length, get_or, drop, set, length-set, length-append, length-drop, get_or-append}
use lib.Seq.{get_or-set_same, get_or-set_other, ext_get_or, get_or-append-add, get_or-drop}
use Rattle.laws.specs.Offsets.{tabulate}
use Rattle.laws.proofs.Offsets.{length_tabulate, get_d_tabulate}
use Rattle.laws.proofs.Choice.{either}

pub record Written (f : ℕ → ℕ) (a e : ℕ) (d d' : List ℕ) : Type 0 where
  pub same : length d' ≡ length d
  pub before : (i : ℕ) → i < a → get_or d' i 0 ≡ get_or d i 0
  pub inside : (i : ℕ) → a ≤ i → i < e → get_or d' i 0 ≡ f i
  pub after : (i : ℕ) → e ≤ i → get_or d' i 0 ≡ get_or d i 0

pub written_none : (f : ℕ → ℕ) (a : ℕ) (d : List ℕ) → Written f a a d d
written_none f a d = record { same = refl; before = λ i h. refl; inside = λ i h k. absurd (no a i h k); after = λ i h. refl }
  where
    no : (a i : ℕ) → a ≤ i → i < a → ⊥
    no a i h k = omega arith

pub written_more : (f : ℕ → ℕ) (a e : ℕ) (d d' : List ℕ) (x : ℕ) → a ≤ e → e < length d → x ≡ f e → Written f a e d d' → Written f a (e + 1) d (set d' e x)
written_more f a e d d' x le h g w =
    record {
      same = length-set d' e x ∙ w.same;
      before = λ i k. get_or-set_other d' e i x 0 (apart i (omega arith)) ∙ w.before i k;
      inside = λ i k l.
          either e i
          (λ m. let q : i ≡ e = omega arith in rw (q, get_or-set_same d' e x 0 (rw w.same h)) g)
          (λ m. get_or-set_other d' e i x 0 (apart i (omega arith)) ∙ w.inside i k m);
      after = λ i k. get_or-set_other d' e i x 0 (above i (omega arith)) ∙ w.after i (omega arith);
    }
  where
    apart : (i : ℕ) → i < e → i ≡ e → ⊥
    apart i k q = omega arith

    above : (i : ℕ) → e < i → i ≡ e → ⊥
    above i k q = omega arith

pub written_join : (f : ℕ → ℕ) (a b e : ℕ) (d d' d'' : List ℕ) → a ≤ b → b ≤ e → Written f a b d d' → Written f b e d' d'' → Written f a e d d''
written_join f a b e d d' d'' h k v w =
    record {
      same = w.same ∙ v.same;
      before = λ i l. w.before i (omega arith) ∙ v.before i l;
      inside = λ i l m. either b i (λ n. w.inside i n m) (λ n. w.before i n ∙ v.inside i l n);
      after = λ i l. w.after i l ∙ v.after i (omega arith);
    }

-- written from the start: the list of f, and what stood behind it
pub written_all : (f : ℕ → ℕ) (e : ℕ) (d d' : List ℕ) → e ≤ length d → Written f 0 e d d' → d' ≡ tabulate f e ++ drop e d
written_all f e d d' h w =
    ext_get_or 0 d' (tabulate f e ++ drop e d)
    (w.same ∙ sym (length-append (tabulate f e) (drop e d) ∙ simp (length_tabulate, length-drop) (omega arith)))
    (λ i k.
    either e i
    (λ m. w.after i m ∙ sym (past i m))
    (λ m. w.inside i (omega arith) m ∙ sym (get_or-append (tabulate f e) (drop e d) 0 i (rw (length_tabulate f e) m) ∙ get_d_tabulate f e i 0 m)))
  where
    past : (i : ℕ) → e ≤ i → get_or (tabulate f e ++ drop e d) i 0 ≡ get_or d i 0
    past i m =
        let q : i ≡ e + (i - e) = omega arith in
        ap (λ (j : ℕ). get_or (tabulate f e ++ drop e d) j 0) (q ∙ ap (λ (n : ℕ). n + (i - e)) (sym (length_tabulate f e)))
        ∙ get_or-append-add (tabulate f e) (drop e d) (i - e) 0
        ∙ get_or-drop e d (i - e) 0
        ∙ ap (λ (j : ℕ). get_or d j 0) (sym q)
