-- A part of a buffer that was lent, written and came back: the buffer is written there, and elsewhere as it was.
-- Assumes nothing.
use mathlib.Core.Path.{◌≡◌, sym, ap, ◌∙◌}
use mathlib.Core.List.{List, ◌++◌}
use Prim.Native.Nat.{ℕ, ◌+◌, ◌-◌, ◌≤◌, ◌<◌}
use native.Mathlib.Omega.{arith}
use lib.ListN.{length, get_or, take, drop, length-append, length-take, length-drop, get_or-append}
use lib.Seq.{get_or-append-add, get_or-drop, get_or-take, length-take-le}
use Rattle.laws.specs.Offsets.{tabulate}
use Rattle.laws.proofs.Offsets.{length_tabulate, get_d_tabulate}
use Rattle.laws.proofs.Written.{Written}
use Rattle.laws.proofs.Parts.{length_back}

module _ (f : ℕ → ℕ) (a k : ℕ) (xs ys : List ℕ) (room : a + k ≤ length xs) (size : length ys ≡ k) (wrote : (i : ℕ) → i < k → get_or ys i 0 ≡ f (a + i)) where
  abbrev back : List ℕ
  back = take a xs ++ (ys ++ drop k (drop a xs))

  front : length (take a xs) ≡ a
  front = length-take-le a xs (omega arith)

  at_front : (i : ℕ) → i < a → get_or back i 0 ≡ get_or xs i 0
  at_front i h = get_or-append (take a xs) (ys ++ drop k (drop a xs)) 0 i (rw front h) ∙ get_or-take a xs i 0 h

  past_front : (i : ℕ) → get_or back (a + i) 0 ≡ get_or (ys ++ drop k (drop a xs)) i 0
  past_front i = ap (λ (n : ℕ). get_or back (n + i) 0) (sym front) ∙ get_or-append-add (take a xs) (ys ++ drop k (drop a xs)) i 0

  at_part : (i : ℕ) → i < k → get_or back (a + i) 0 ≡ f (a + i)
  at_part i h = past_front i ∙ get_or-append ys (drop k (drop a xs)) 0 i (rw size h) ∙ wrote i h

  at_rest : (i : ℕ) → get_or back (a + (k + i)) 0 ≡ get_or xs (a + (k + i)) 0
  at_rest i =
      past_front (k + i)
      ∙ ap (λ (n : ℕ). get_or (ys ++ drop k (drop a xs)) (n + i) 0) (sym size)
      ∙ get_or-append-add ys (drop k (drop a xs)) i 0
      ∙ get_or-drop k (drop a xs) i 0
      ∙ get_or-drop a xs (k + i) 0

  pub written_part : Written f a (a + k) xs back
  written_part =
      record {
        same = length_back xs ys a k (omega arith) (size ∙ sym (simp (length-take, length-drop) (omega arith)));
        before = at_front;
        inside = λ i h l. let e : a + (i - a) ≡ i = omega arith in ap (λ (n : ℕ). get_or back n 0) (sym e) ∙ at_part (i - a) (omega arith) ∙ ap f e;
        after = λ i h. let e : a + (k + (i - (a + k))) ≡ i = omega arith in ap (λ (n : ℕ). get_or back n 0) (sym e) ∙ at_rest (i - (a + k)) ∙ ap (λ (n : ℕ). get_or xs n 0) e;
      }

-- a part that is written by one function is written by any that agrees with it there
pub written_by : (f g : ℕ → ℕ) (a e : ℕ) (d d' : List ℕ) → ((i : ℕ) → a ≤ i → i < e → f i ≡ g i) → Written f a e d d' → Written g a e d d'
written_by f g a e d d' h w = record { same = w.same; before = w.before; inside = λ i k l. w.inside i k l ∙ h i k l; after = w.after }

-- a part that was filled from the same part of another list, each byte by its place in the part
module _ (g : ℕ → ℕ → ℕ) (s d ys : List ℕ) (a k : ℕ) (hs : a + k ≤ length s) (hd : a + k ≤ length d)
    (filled : ys ≡ tabulate (λ (i : ℕ). g i (get_or (take k (drop a s)) i 0)) k ++ drop k (take k (drop a d))) where
  abbrev put : ℕ → ℕ
  put i = g i (get_or (take k (drop a s)) i 0)

  ys_size : length ys ≡ k
  ys_size = ap length filled ∙ length-append (tabulate put k) (drop k (take k (drop a d))) ∙ simp (length_tabulate, length-drop, length-take) (omega arith)

  ys_at : (i : ℕ) → i < k → get_or ys i 0 ≡ g (a + i - a) (get_or s (a + i) 0)
  ys_at i h =
      let back : a + i - a ≡ i = omega arith in
      ap (λ (zs : List ℕ). get_or zs i 0) filled
      ∙ get_or-append (tabulate put k) (drop k (take k (drop a d))) 0 i (rw (length_tabulate put k) h)
      ∙ get_d_tabulate put k i 0 h
      ∙ ap (g i) (get_or-take k (drop a s) i 0 h ∙ get_or-drop a s i 0)
      ∙ ap (λ (n : ℕ). g n (get_or s (a + i) 0)) (sym back)

  pub lent_part : Written (λ (o : ℕ). g (o - a) (get_or s o 0)) a (a + k) d (take a d ++ (ys ++ drop k (drop a d)))
  lent_part = written_part (λ (o : ℕ). g (o - a) (get_or s o 0)) a k d ys hd ys_size ys_at

-- how many bytes a part has
pub part_size : (s : List ℕ) (a k : ℕ) → a + k ≤ length s → length (take k (drop a s)) ≡ k
part_size s a k h = simp (length-take, length-drop) (omega arith)
