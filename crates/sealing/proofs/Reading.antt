-- Fields read from a list that was made by joining them: what stands behind a part of known length is read from its own start.
-- Assumes nothing.
use mathlib.Core.Path.{◌≡◌, sym, ap, ◌∙◌}
use mathlib.Core.List.{List, ◌++◌}
use Prim.Native.Nat.{ℕ, ◌+◌, ◌*◌, ◌/◌, ◌%◌, ◌^◌, ◌<◌}
use native.Mathlib.Nat.{add_assoc}
use native.Mathlib.Omega.{arith}
use lib.ListN.{length, get_or, get_or-append}
use lib.Seq.{ext_get_or, get_or-append-add}
use Rattle.laws.proofs.Offsets.{length_tabulate, get_d_tabulate}
use Rattle.word.specs.Word.{le32, le_bytes}
use Rattle.word.proofs.Bytes.{word_of_le}
use Rattle.block_keys.specs.Lock.{part}

module _ (a v : List ℕ) (n : ℕ) (e : length a ≡ n) where
  pub behind : (i : ℕ) → get_or (a ++ v) (n + i) 0 ≡ get_or v i 0
  behind i = ap (λ (k : ℕ). get_or (a ++ v) (k + i) 0) (sym e) ∙ get_or-append-add a v i 0

  next_behind : (i j : ℕ) → get_or (a ++ v) (n + i + j) 0 ≡ get_or v (i + j) 0
  next_behind i j = ap (λ (k : ℕ). get_or (a ++ v) k 0) (add_assoc n i j) ∙ behind (i + j)

  pub le32_behind : (i : ℕ) → le32 (a ++ v) (n + i) ≡ le32 v i
  unfolding le32
  le32_behind i = rw (behind i, next_behind i 1, next_behind i 2, next_behind i 3)

-- a part that stands between two others
pub part_at : (a b c : List ℕ) (n k : ℕ) → length a ≡ n → length b ≡ k → part (a ++ (b ++ c)) n k ≡ b
part_at a b c n k ea eb =
    let f : ℕ → ℕ = λ i. get_or (a ++ (b ++ c)) (n + i) 0 in
    ext_get_or 0 (part (a ++ (b ++ c)) n k) b (length_tabulate f k ∙ sym eb)
    (λ i h.
    let m : i < k = rw (length_tabulate f k) at h in
    get_d_tabulate f k i 0 m ∙ behind a (b ++ c) n ea i ∙ get_or-append b c 0 i (rw eb m))

-- a byte of it, where the part that is read may reach further
pub byte_at : (a b c : List ℕ) (n k m i : ℕ) → length a ≡ n → length b ≡ k → i < k → i < m → get_or (part (a ++ (b ++ c)) n m) i 0 ≡ get_or b i 0
byte_at a b c n k m i ea eb h g =
    get_d_tabulate (λ (j : ℕ). get_or (a ++ (b ++ c)) (n + j) 0) m i 0 g ∙ behind a (b ++ c) n ea i ∙ get_or-append b c 0 i (rw eb h)

-- numbers in two bytes and in four
pub two_read : (x : ℕ) → x < 65536 → x % 256 + x / 2 ^ 8 % 256 * 2 ^ 8 ≡ x
two_read x h = omega arith

pub four_read : (x : ℕ) → x < 2 ^ 32 → le32 (le_bytes x) 0 ≡ x
unfolding le32
four_read x h = word_of_le x h
