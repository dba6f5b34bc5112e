-- The rule of XOR_MATRIX: within each row of seven, every entry is the one before it, doubled. A test that antt computes over the whole
-- table passes, and a lemma carries it to each entry.
-- Assumes nothing.
use mathlib.Core.Path.{◌≡◌, subst}
use mathlib.Core.Bool.{Bool, false, ◌||◌}
use Prim.Native.Nat.{ℕ, ◌+◌, ◌%◌, ◌<◌}
use lib.Dec.{T, eqb, eqb→eq}
use lib.ListN.{get_or}
use borrow.Author.Tests.{ne_eqb}
use Rattle.laws.specs.Choice.{pick}
use Rattle.laws.proofs.Table.{every, at}
use Rattle.xor_obfuscation.specs.Xor.{xor_matrix, doubled}

-- the entry is its row's last, or the next one is its double
follows : ℕ → ℕ → Bool
follows k x = eqb (k % 7) 6 || eqb (get_or xor_matrix (k + 1) 0) (doubled x)

whole : T (every follows 0 xor_matrix)
unfolding follows pick
whole = tt

second : (a b : Bool) → a ≡ false → T (a || b) → T b
second a b e t = subst (λ (x : Bool). T (x || b)) e t

pub matrix_doubles : (k : ℕ) → k < 105 → (k % 7 ≡ 6 → ⊥) → get_or xor_matrix (k + 1) 0 ≡ doubled (get_or xor_matrix k 0)
unfolding follows
matrix_doubles k h q =
    eqb→eq (get_or xor_matrix (k + 1) 0) (doubled (get_or xor_matrix k 0))
    (second (eqb (k % 7) 6) (eqb (get_or xor_matrix (k + 1) 0) (doubled (get_or xor_matrix k 0))) (ne_eqb (k % 7) 6 q) (at follows xor_matrix whole k h))
