-- Data put through the array in pieces of 16: a piece written from a place on is a part of the whole, and a later part may overlap what is written already.
-- Assumes nothing.
use mathlib.Core.Path.{◌≡◌, refl, sym, ap, ◌∙◌}
use mathlib.Core.List.{List}
use Prim.Native.Nat.{ℕ, ◌+◌, ◌-◌, ◌%◌, ◌≤◌, ◌<◌, min}
use native.Mathlib.Omega.{arith}
use lib.ListN.{length, get_or, set, length-set}
use lib.Seq.{get_or-set_same, get_or-set_other, ext_get_or}
use Rattle.laws.specs.Offsets.{tabulate}
use Rattle.laws.proofs.Choice.{either, same_or}
use Rattle.laws.proofs.Offsets.{length_tabulate, get_d_tabulate}
use Rattle.laws.proofs.Written.{Written, written_all}
use Rattle.xor_obfuscation.specs.declared.Way.{Way}
use Rattle.xor_obfuscation.specs.declared.Way.TheVariants.{Decrypt, Encrypt}
use Rattle.xor_obfuscation.specs.Xor.{ciphered, twice_over, transformed_at, Transforms}

-- the byte of the whole at an offset, by the array's byte for it
pub ciphered_at : (way : Way) (array : List ℕ) (index : ℕ) (s : List ℕ) (o i : ℕ) → i ≡ (index + o) % 16
    → ciphered way (get_or s o 0) (get_or array i 0) ≡ transformed_at way array index s o
ciphered_at Decrypt array index s o i e = rw e
ciphered_at Encrypt array index s o i e = rw e

-- a list whose first i places, and those from 16 on, hold the first i bytes of the array
pub record Both (array twice : List ℕ) (i : ℕ) : Type 0 where
  pub long : length twice ≡ 32
  pub low : (k : ℕ) → k < i → get_or twice k 0 ≡ get_or array k 0
  pub high : (k : ℕ) → k < i → get_or twice (16 + k) 0 ≡ get_or array k 0

pub both_more : (array twice : List ℕ) (i : ℕ) → i < 16 → Both array twice i → Both array (set (set twice i (get_or array i 0)) (16 + i) (get_or array i 0)) (i + 1)
both_more array twice i h b =
    let x = get_or array i 0 in
    record {
      long = simp length-set b.long;
      low = λ k l.
          get_or-set_other (set twice i x) (16 + i) k x 0 (λ e. omega arith)
          ∙ same_or k i
          (λ e. rw e (get_or-set_same twice i x 0 (rw b.long (omega arith))))
          (λ e. get_or-set_other twice i k x 0 e ∙ b.low k (omega arith));
      high = λ k l.
          same_or k i
          (λ e. rw e (get_or-set_same (set twice i x) (16 + i) x 0 (rw (length-set, b.long) (omega arith))))
          (λ e. get_or-set_other (set twice i x) (16 + i) (16 + k) x 0 (λ q. e (omega arith)) ∙ get_or-set_other twice i (16 + k) x 0 (λ q. omega arith) ∙ b.high k (omega arith));
    }

pub both_all : (array twice : List ℕ) → Both array twice 16 → twice ≡ twice_over array
both_all array twice b =
    ext_get_or 0 twice (twice_over array) (b.long ∙ sym (length_tabulate _ 32))
    (λ i l. let m : i < 32 = rw b.long at l in at i m ∙ sym (get_d_tabulate (λ (n : ℕ). get_or array (n % 16) 0) 32 i 0 m))
  where
    at : (i : ℕ) → i < 32 → get_or twice i 0 ≡ get_or array (i % 16) 0
    at i m =
        either 16 i
        (λ n.
        let q : i ≡ 16 + (i - 16) = omega arith in
        let r : i - 16 ≡ i % 16 = omega arith in
        ap (λ (j : ℕ). get_or twice j 0) q ∙ b.high (i - 16) (omega arith) ∙ ap (λ (j : ℕ). get_or array j 0) r)
        (λ n. let r : i ≡ i % 16 = omega arith in b.low i n ∙ ap (λ (j : ℕ). get_or array j 0) r)

-- the array twice over, from an index on
pub twice_at : (array : List ℕ) (index at start i : ℕ) → start ≡ (index + at) % 16 → i < 16
    → get_or (twice_over array) (start + i) 0 ≡ get_or array ((index + (at + i)) % 16) 0
twice_at array index at start i e h =
    let q : (start + i) % 16 ≡ (index + (at + i)) % 16 = omega arith in
    get_d_tabulate (λ (n : ℕ). get_or array (n % 16) 0) 32 (start + i) 0 (omega arith) ∙ ap (λ (n : ℕ). get_or array n 0) q

-- where the array goes on for the last piece
pub last_start : (index n : ℕ) → 16 ≤ n → (index % 16 + n) % 16 ≡ (index + (n - 16)) % 16
last_start index n h = omega arith

-- 16 bytes that were put through beside the output, and then written
module _ (way : Way) (array : List ℕ) (index : ℕ) (s : List ℕ) (start at : ℕ) (twice bytes d d' : List ℕ) where
  pub piece_written : start ≡ (index + at) % 16 → twice ≡ twice_over array
      → bytes ≡ tabulate (λ (i : ℕ). ciphered way (get_or s (at + i) 0) (get_or twice (start + i) 0)) 16
      → Written (λ (o : ℕ). get_or bytes (o - at) 0) at (at + 16) d d' → Written (transformed_at way array index s) at (at + 16) d d'
  piece_written e t b w =
      record {
        same = w.same;
        before = w.before;
        inside = λ o h k. w.inside o h k ∙ ap (λ (l : List ℕ). get_or l (o - at) 0) b ∙ get_d_tabulate _ 16 (o - at) 0 (omega arith) ∙ here o (o - at)
            (omega arith) (omega arith);
        after = w.after;
      }
    where
      here : (o i : ℕ) → at + i ≡ o → i < 16 → ciphered way (get_or s (at + i) 0) (get_or twice (start + i) 0) ≡ transformed_at way array index s o
      here o i q h = rw (t, twice_at array index at start i e h, q) (ciphered_at way array index s o _ refl)

-- two parts, the second of which starts within the first and ends behind it
pub written_over : (f : ℕ → ℕ) (b m e : ℕ) (d d' d'' : List ℕ) → b ≤ m → m ≤ e → Written f 0 m d d' → Written f b e d' d'' → Written f 0 e d d''
written_over f b m e d d' d'' h k v w =
    record {
      same = w.same ∙ v.same;
      before = λ i l. w.before i (omega arith) ∙ v.before i l;
      inside = λ i l g. either b i (λ n. w.inside i n g) (λ n. w.before i n ∙ v.inside i l (omega arith));
      after = λ i l. w.after i l ∙ v.after i (omega arith);
    }

-- as many bytes as both have room for
pub transforms : (way : Way) (array : List ℕ) (index : ℕ) (s d d' : List ℕ) (n : ℕ) → n ≡ min (length s) (length d) → Written (transformed_at way array index s) 0 n d d'
    → Transforms way array index s d d'
transforms way array index s d d' n e w = record { bytes = rw e at (written_all _ n d d' (omega arith) w) }
