-- The hash of blocks in order. A list that starts with whole blocks is hashed by hashing those and going on with the rest, so a message is
-- hashed by its whole blocks and then its padded end, of one block or two.
-- Assumes nothing.
use mathlib.Core.Path.{◌≡◌, refl, sym, ap, ◌∙◌}
use mathlib.Core.List.{List, ◌∷◌, ◌++◌, append_assoc}
use Prim.Native.Nat.{ℕ, zero, suc, ◌+◌, ◌-◌, ◌*◌, ◌/◌, ◌%◌, ◌≤◌, ◌<◌}
use native.Mathlib.Nat.{add-zero, add-suc, suc-mul, le_of_eq}
use native.Mathlib.Numerals.{add-one}
use native.Mathlib.Omega.{arith}
use lib.ListN.{length, get_or, take, drop, replicate, length-append, length-replicate, length-drop, take-append-drop, replicate-append-replicate}
use lib.Seq.{take-append-le, drop-append-le, drop-append-add, length-take-le, take_all, take_at, drop_at}
use Rattle.std.proofs.lemmas.List.{drop-drop}
use Rattle.std.specs.Simd.{first_chunks}
use Rattle.padding.specs.Padding.{blocks, hash_end, hash, zeros, ending}

-- the blocks that the library cuts a list into
chunk : (s : List ℕ) (k i : ℕ) (d : List ℕ) → i < k → get_or (first_chunks 64 k s) i d ≡ take 64 (drop (i * 64) s)
chunk s zero i d l = absurd (omega arith)
chunk s (suc k) zero d l = refl
chunk s (suc k) (suc i) d l =
    let e : 64 + i * 64 ≡ suc i * 64 = omega arith in
    chunk (drop 64 s) k i d (omega arith) ∙ rw (← e) (ap (take 64) (drop-drop (i * 64) 64 s))

module _ {S : Type 0} (f : S → List ℕ → S) (h : S) where
  -- one block more
  pub blocks_more : (s : List ℕ) (n : ℕ) → blocks f h s (n + 1) ≡ f (blocks f h s n) (take 64 (drop (n * 64) s))
  unfolding blocks
  blocks_more s n = rw (add-one n)

  -- one more of the blocks that the library cuts the list into
  pub blocks_chunks : (s : List ℕ) (i k : ℕ) (v v' : S) (d : List ℕ) → i < k → v ≡ blocks f h s i → v' ≡ f v (get_or (first_chunks 64 k s) i d)
      → v' ≡ blocks f h s (i + 1)
  blocks_chunks s i k v v' d l e g = g ∙ rw (chunk s k i d l, e) (sym (blocks_more s i))

  pub blocks_none : (s : List ℕ) → h ≡ blocks f h s 0
  unfolding blocks
  blocks_none s = refl

  -- what stands behind the blocks does not matter
  pub blocks_prefix : (a b : List ℕ) (n : ℕ) → n * 64 ≤ length a → blocks f h (a ++ b) n ≡ blocks f h a n
  unfolding blocks
  blocks_prefix a b zero le = refl
  blocks_prefix a b (suc n) le =
      let l : n * 64 + 64 ≤ length a = rw suc-mul at le in
      let d : drop (n * 64) (a ++ b) ≡ drop (n * 64) a ++ b = drop-append-le (n * 64) a b (omega arith) in
      let k : 64 ≤ length (drop (n * 64) a) = simp length-drop (omega arith) in
      rw (blocks_prefix a b n (omega arith), d, take-append-le 64 (drop (n * 64) a) b k)

  -- blocks, and then those of the rest
  pub blocks_join : (a b : List ℕ) (n k : ℕ) → length a ≡ n * 64 → blocks f h (a ++ b) (n + k) ≡ blocks f (blocks f h a n) b k
  unfolding blocks
  blocks_join a b n zero e = rw add-zero (blocks_prefix a b n (omega arith))
  blocks_join a b n (suc k) e =
      let p : (n + k) * 64 ≡ length a + k * 64 = omega arith in
      rw (add-suc, blocks_join a b n k e, p, drop-append-add a b (k * 64))

-- the zeros are the fewest that leave 8 bytes of a block: FIPS 180-4's smallest solution
pub zeros_least : (n : ℕ) → ((n + 1 + zeros n) % 64 ≡ 56) × (zeros n < 64)
zeros_least n = (omega arith, omega arith)

module _ {S : Type 0} (f : S → List ℕ → S) (order : ℕ → List ℕ) (h : S) where
  -- a message whose first n blocks are hashed already; the length that is told is the same
  pub hash_end_on : (a m : List ℕ) (n total : ℕ) → length a ≡ n * 64 → hash_end f order h (a ++ m) total ≡ hash_end f order (blocks f h a n) m total
  unfolding hash_end
  hash_end_on a m n total e =
      let size = order (8 * total) in
      let l : length (a ++ m) ≡ n * 64 + length m = length-append a m ∙ ap (λ (k : ℕ). k + length m) e in
      let z : length (a ++ m) % 64 ≡ length m % 64 = omega arith in
      let same : ending (length (a ++ m)) size ≡ ending (length m) size = ap (λ (k : ℕ). 128 ∷ (replicate ((119 - k) % 64) 0 ++ size)) z in
      let parts : (a ++ m) ++ ending (length (a ++ m)) size ≡ a ++ (m ++ ending (length m) size) =
      ap (λ (s : List ℕ). (a ++ m) ++ s) same ∙ append_assoc a m (ending (length m) size) in
      let padded = m ++ ending (length m) size in
      let count : length (a ++ padded) / 64 ≡ n + length padded / 64 = rw (length-append a padded, e) (added n (length padded)) in
      rw (parts, count) (blocks_join f h a padded n (length padded / 64) e)
    where
      added : (n k : ℕ) → (n * 64 + k) / 64 ≡ n + k / 64
      added n k = omega arith

  pub hash_on : (a m : List ℕ) (n : ℕ) → length a ≡ n * 64 → hash f order h (a ++ m) ≡ hash_end f order (blocks f h a n) m (length (a ++ m))
  hash_on a m n e = hash_end_on a m n (length (a ++ m)) e

  -- a message's whole blocks, and then what is left
  pub whole_and_left : (m rest : List ℕ) (total : ℕ) (v r : S) → v ≡ blocks f h m (length m / 64) → rest ≡ drop (length m / 64 * 64) m
      → r ≡ hash_end f order v rest total → r ≡ hash_end f order h m total
  whole_and_left m rest total v r e g given =
      let n = length m / 64 in
      let a = take (n * 64) m in
      let b = drop (n * 64) m in
      let w : length a ≡ n * 64 = length-take-le (n * 64) m (omega arith) in
      let cut : a ++ b ≡ m = take-append-drop (n * 64) m in
      let same : blocks f h a n ≡ blocks f h m n = sym (blocks_prefix f h a b n (le_of_eq (sym w))) ∙ ap (λ (s : List ℕ). blocks f h s n) cut in
      let split : hash_end f order h m total ≡ hash_end f order (blocks f h m n) b total =
      ap (λ (s : List ℕ). hash_end f order h s total) (sym cut) ∙ hash_end_on a b n total w ∙ ap (λ (u : S). hash_end f order u b total) same in
      given ∙ rw (e, g) (sym split)

  -- what is left, marked and padded: one block where there is room for the length, else two
  module _ (wide : (n : ℕ) → length (order n) ≡ 8) (m : List ℕ) (total : ℕ) (size block end : List ℕ) (told : size ≡ order (8 * total))
      (mark : block ≡ m ++ (128 ∷ replicate (63 - length m) 0)) where
    ends_wide : length size ≡ 8
    ends_wide = rw told (wide (8 * total))

    pub one_block : (v : S) → length m < 56 → end ≡ take 56 block ++ size → v ≡ f h end → v ≡ hash_end f order h m total
    unfolding hash_end blocks
    one_block v l e given =
        let z = zeros (length m) in
        let front = m ++ (128 ∷ replicate z 0) in
        let n : 63 - length m ≡ z + 8 = omega arith in
        let lf : length front ≡ 56 = length-append m (128 ∷ replicate z 0) ∙ simp length-replicate (omega arith) in
        let zs : replicate {A = ℕ} (63 - length m) 0 ≡ replicate z 0 ++ replicate 8 0 = rw (n, replicate-append-replicate {A = ℕ} z 8 0) in
        let a : block ≡ front ++ replicate 8 0 =
        mark ∙ ap (λ (s : List ℕ). m ++ (128 ∷ s)) zs ∙ sym (append_assoc m (128 ∷ replicate z 0) (replicate 8 0)) in
        let t : end ≡ front ++ size = e ∙ ap (λ (s : List ℕ). s ++ size) (ap (take 56) a ∙ take_at front (replicate 8 0) 56 lf) in
        let p : m ++ ending (length m) size ≡ end = sym (append_assoc m (128 ∷ replicate z 0) size) ∙ sym t in
        let len : length end ≡ 64 = ap length t ∙ length-append front size ∙ rw (lf, ends_wide) in
        given ∙ rw (← told, p, len) (ap (f h) (sym (take_all 64 end (le_of_eq len))))

    pub two_blocks : (u v : S) → 56 ≤ length m → length m < 64 → end ≡ take 56 (replicate 64 0) ++ size → u ≡ f h block → v ≡ f u end
        → v ≡ hash_end f order h m total
    unfolding hash_end blocks
    two_blocks u v g l e first given =
        let z = zeros (length m) in
        let n : z ≡ (63 - length m) + 56 = omega arith in
        let lb : length block ≡ 64 = ap length mark ∙ length-append m (128 ∷ replicate (63 - length m) 0) ∙ simp length-replicate (omega arith) in
        let le : length end ≡ 64 = ap length e ∙ length-append (replicate 56 0) size ∙ rw ends_wide in
        let zs : replicate {A = ℕ} z 0 ≡ replicate (63 - length m) 0 ++ replicate 56 0 = rw (n, replicate-append-replicate {A = ℕ} (63 - length m) 56 0) in
        let p : m ++ ending (length m) size ≡ block ++ end =
        ap (λ (s : List ℕ). m ++ (128 ∷ (s ++ size))) zs
        ∙ ap (λ (s : List ℕ). m ++ (128 ∷ s)) (append_assoc (replicate (63 - length m) 0) (replicate 56 0) size)
        ∙ sym (append_assoc m (128 ∷ replicate (63 - length m) 0) (replicate 56 0 ++ size))
        ∙ rw (← mark, ← e) in
        let len : length (block ++ end) ≡ 128 = length-append block end ∙ rw (lb, le) in
        let t : take 64 (block ++ end) ≡ block = take_at block end 64 lb in
        let d : drop 64 (block ++ end) ≡ end = drop_at block end 64 lb in
        given ∙ rw (first, ← told, p, len, t, d) (ap (f (f h block)) (sym (take_all 64 end (le_of_eq le))))
