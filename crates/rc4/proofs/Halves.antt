-- A keystream, and two side by side: an output whose two halves are written from their starts on.
-- What lies between the two parts is never asked for: at the end there is nothing there.
-- Assumes nothing.
use mathlib.Core.Path.{◌≡◌, refl, ap, ◌∙◌}
use mathlib.Core.Bool.{Bool, true, false}
use mathlib.Core.List.{List, ◌++◌}
use Prim.Native.Nat.{ℕ, ◌+◌, ◌-◌, ◌≤◌, ◌<◌, min}
use native.Mathlib.Nat.{not-suc-le-zero}
use native.Mathlib.Omega.{arith}
use lib.Bits.{bit_xor}
use lib.Dec.{ltb}
use lib.ListN.{length, get_or, set, drop, length-set}
use lib.Seq.{get_or-set_same, get_or-set_other}
use borrow.Author.Tests.{lt-ltb, le-ltb}
use Rattle.rc4.proofs.Table.{table_keyed}
use Rattle.laws.specs.Choice.{pick}
use Rattle.laws.specs.Offsets.{tabulate}
use Rattle.laws.proofs.Choice.{stop, skip, either}
use Rattle.laws.proofs.Written.{Written, written_all}
use Rattle.rc4.specs.declared.Keystream.{Keystream}
use Rattle.rc4.specs.Rc4.{mixing, keyed, byte_from, applied, enciphered, half, applied_halves, enciphered_halves, AppliesHalves}
use Rattle.rc4.specs.Steps.{given_halves}

-- an output of which k bytes of each half are written, the halves being h long: they hold f at their offsets, and nothing behind them is changed
pub record Sides (f : ℕ → ℕ) (h k : ℕ) (d d' : List ℕ) : Type 0 where
  pub same : length d' ≡ length d
  pub low : (n : ℕ) → n < k → get_or d' n 0 ≡ f n
  pub high : (n : ℕ) → h ≤ n → n < h + k → get_or d' n 0 ≡ f n
  pub behind : (n : ℕ) → h + k ≤ n → get_or d' n 0 ≡ get_or d n 0

pub sides_none : (f : ℕ → ℕ) (h : ℕ) (d : List ℕ) → Sides f h 0 d d
sides_none f h d = record { same = refl; low = λ n g. absurd (not-suc-le-zero g); high = λ n g l. absurd (no n g l); behind = λ n g. refl }
  where
    no : (n : ℕ) → h ≤ n → n < h + 0 → ⊥
    no n g l = omega arith

pub sides_more : (f : ℕ → ℕ) (h k : ℕ) (d d' : List ℕ) (x y : ℕ) → k < h → h + k < length d → x ≡ f k → y ≡ f (h + k) → Sides f h k d d'
    → Sides f h (k + 1) d (set (set d' k x) (h + k) y)
sides_more f h k d d' x y lt fits gx gy w =
    record {
      same = simp length-set w.same;
      low = λ n g.
          either k n
          (λ m. let q : n ≡ k = omega arith in rw q
          (get_or-set_other (set d' k x) (h + k) k y 0 (λ e. omega arith) ∙ get_or-set_same d' k x 0 (rw w.same (omega arith)) ∙ gx))
          (λ m. kept n (λ e. omega arith) (λ e. omega arith) ∙ w.low n m);
      high = λ n g l.
          either (h + k) n
          (λ m. let q : n ≡ h + k = omega arith in rw q (get_or-set_same (set d' k x) (h + k) y 0 (rw (length-set, w.same) fits) ∙ gy))
          (λ m. kept n (λ e. omega arith) (λ e. omega arith) ∙ w.high n g m);
      behind = λ n g. kept n (λ e. omega arith) (λ e. omega arith) ∙ w.behind n (omega arith);
    }
  where
    kept : (n : ℕ) → (n ≡ k → ⊥) → (n ≡ h + k → ⊥) → get_or (set (set d' k x) (h + k) y) n 0 ≡ get_or d' n 0
    kept n p q = get_or-set_other (set d' k x) (h + k) n y 0 q ∙ get_or-set_other d' k n x 0 p

pub sides_all : (f : ℕ → ℕ) (h : ℕ) (d d' : List ℕ) → Sides f h h d d' → Written f 0 (h + h) d d'
sides_all f h d d' w =
    record {
      same = w.same;
      before = λ n g. absurd (not-suc-le-zero g);
      inside = λ n g l. either h n (λ m. w.high n m l) (λ m. w.low n m);
      after = λ n g. w.behind n g;
    }

-- the keystreams' bytes of the two halves
pub first_half : (a b : Keystream) (h k x : ℕ) → k < h → x ≡ byte_from a k → x ≡ given_halves a b h k
first_half a b h k x lt e = e ∙ stop _ (lt-ltb k h lt)

pub second_half : (a b : Keystream) (h k x : ℕ) → x ≡ byte_from b k → x ≡ given_halves a b h (h + k)
second_half a b h k x e =
    let q : h + k - h ≡ k = omega arith in
    e ∙ skip _ (le-ltb (h + k) h (omega arith)) (rw q refl)

-- a byte, exclusive-or the one that was picked
combined : (a b : Keystream) (h : ℕ) (s : List ℕ) (n : ℕ) → bit_xor (get_or s n 0) (given_halves a b h n) ≡ applied_halves a b h s n
unfolding pick
combined a b h s n = by (ltb n h)
  where
    by : (t : Bool) → bit_xor (get_or s n 0) (pick t (byte_from a n) (byte_from b (n - h))) ≡ pick t (applied a s n) (bit_xor (get_or s n 0) (byte_from b (n - h)))
    by true = refl
    by false = refl

-- the keystreams' bytes, and then exclusive-or those of s
pub applies_halves : (a b : Keystream) (s d d₁ d₂ : List ℕ) (h : ℕ) → h ≡ half s d → Written (given_halves a b h) 0 (h + h) d d₁
    → Written (λ (o : ℕ). bit_xor (get_or s o 0) (get_or d₁ o 0)) 0 (h + h) d₁ d₂ → AppliesHalves a b s d d₂
applies_halves a b s d d₁ d₂ h eh v w =
    let fits : h + h ≤ length d = omega arith in
    let both : Written (applied_halves a b h s) 0 (h + h) d d₂ =
    record {
      same = w.same ∙ v.same;
      before = λ n g. absurd (not-suc-le-zero g);
      inside = λ n g l. w.inside n g l ∙ ap (bit_xor (get_or s n 0)) (v.inside n g l) ∙ combined a b h s n;
      after = λ n g. w.after n g ∙ v.after n g;
    } in
    record { bytes = written_all (applied_halves a b h s) (h + h) d d₂ fits both ∙ rw eh refl }

-- the keystream's bytes of a key's table, and then exclusive-or those of s
pub one_keyed : (key t s d d₁ d₂ : List ℕ) (n : ℕ) → t ≡ (mixing key 256).table → n ≡ min (length s) (length d)
    → Written (byte_from (record { table = t; i = 0; j = 0 })) 0 n d d₁ → Written (λ (o : ℕ). bit_xor (get_or s o 0) (get_or d₁ o 0)) 0 n d₁ d₂
    → d₂ ≡ enciphered (keyed key) s d
one_keyed key t s d d₁ d₂ n et en v w =
    let k : Keystream = record { table = t; i = 0; j = 0 } in
    let fits : n ≤ length d = omega arith in
    let both : Written (applied k s) 0 n d d₂ =
    record {
      same = w.same ∙ v.same;
      before = λ o g. absurd (not-suc-le-zero g);
      inside = λ o g l. w.inside o g l ∙ ap (bit_xor (get_or s o 0)) (v.inside o g l);
      after = λ o g. w.after o g ∙ v.after o g;
    } in
    written_all (applied k s) n d d₂ fits both
    ∙ ap (λ (m : ℕ). tabulate (applied k s) m ++ drop m d) en
    ∙ ap (λ (u : Keystream). enciphered u s d) (table_keyed key t et)

-- the tables are those of two keys
pub halves_keyed : (key other t u s d d' : List ℕ) → t ≡ (mixing key 256).table → u ≡ (mixing other 256).table
    → AppliesHalves (record { table = t; i = 0; j = 0 }) (record { table = u; i = 0; j = 0 }) s d d' → d' ≡ enciphered_halves (keyed key) (keyed other) s d
halves_keyed key other t u s d d' et eu a =
    let b : Keystream = record { table = u; i = 0; j = 0 } in
    a.bytes
    ∙ ap (λ (k : Keystream). enciphered_halves k b s d) (table_keyed key t et)
    ∙ ap (λ (k : Keystream). enciphered_halves (keyed key) k s d) (table_keyed other u eu)
