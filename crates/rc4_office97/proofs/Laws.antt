-- A list sixteen times over by its offsets, and how long a block's key is: the 16 bytes of a digest.
-- Assumes nothing.
use mathlib.Core.Path.{◌≡◌, refl, sym, ap, ◌∙◌}
use mathlib.Core.List.{List, ◌++◌}
use Prim.Native.Nat.{ℕ, zero, suc, ◌+◌, ◌-◌, ◌*◌, ◌%◌, ◌≤◌, ◌<◌}
use native.Mathlib.Nat.{suc-mul}
use native.Mathlib.Omega.{arith}
use lib.ListN.{length, get_or, length-append, get_or-append}
use lib.Seq.{get_or-append-add, ext_get_or}
use Rattle.laws.specs.Offsets.{tabulate}
use Rattle.laws.proofs.Choice.{either}
use Rattle.laws.proofs.Offsets.{length_tabulate, get_d_tabulate}
use Rattle.word.specs.Word.{le_bytes}
use Rattle.md_5.specs.Md5.{md5, output}
use Rattle.rc4_office97.specs.Keys.{times, block_key}

pub length_md5 : (m : List ℕ) → length (md5 m) ≡ 16
unfolding md5 output
length_md5 m = refl

pub key_is : (hash : List ℕ) (block : ℕ) → block_key hash block ≡ md5 (hash ++ le_bytes block)
unfolding block_key
key_is hash block = refl

pub key_sixteen : (hash : List ℕ) (block : ℕ) → length (block_key hash block) ≡ 16
key_sixteen hash block = rw (key_is hash block) (length_md5 (hash ++ le_bytes block))

pub block_key_length : (hash : List ℕ) (block : ℕ) → (5 ≤ length (block_key hash block)) × (length (block_key hash block) ≤ 16)
block_key_length hash block = rw (key_sixteen hash block) (omega arith, omega arith)

-- a list of 21 elements, n times over
module _ (u : List ℕ) (e : length u ≡ 21) where
  length_times : (n : ℕ) → length (times n u) ≡ n * 21
  unfolding times
  length_times zero = refl
  length_times (suc n) = length-append u (times n u) ∙ rw (suc-mul, length_times n) (omega arith)

  get_d_times : (n i : ℕ) → i < n * 21 → get_or (times n u) i 0 ≡ get_or u (i % 21) 0
  unfolding times
  get_d_times zero i h = let no : ⊥ = omega arith in absurd no
  get_d_times (suc n) i h =
      let l : i < n * 21 + 21 = rw suc-mul at h in
      either 21 i
      (λ k.
      let q : i ≡ length u + (i - 21) = omega arith in
      let r : (i - 21) % 21 ≡ i % 21 = omega arith in
      ap (λ (j : ℕ). get_or (u ++ times n u) j 0) q
      ∙ get_or-append-add u (times n u) (i - 21) 0
      ∙ get_d_times n (i - 21) (omega arith)
      ∙ ap (λ (j : ℕ). get_or u j 0) r)
      (λ k. let r : i ≡ i % 21 = omega arith in get_or-append u (times n u) 0 i (omega arith) ∙ ap (λ (j : ℕ). get_or u j 0) r)

  pub times_listed : (n : ℕ) → tabulate (λ (i : ℕ). get_or u (i % 21) 0) (n * 21) ≡ times n u
  times_listed n =
      let f : ℕ → ℕ = λ i. get_or u (i % 21) 0 in
      ext_get_or 0 (tabulate f (n * 21)) (times n u) (length_tabulate f (n * 21) ∙ sym (length_times n))
      (λ i k. let m : i < n * 21 = rw (length_tabulate f (n * 21)) at k in get_d_tabulate f (n * 21) i 0 m ∙ sym (get_d_times n i m))
