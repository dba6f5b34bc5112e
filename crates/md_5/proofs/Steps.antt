-- Which function an operation has, one operation more, and one word more of a block.
-- Assumes nothing.
use mathlib.Core.Path.{◌≡◌, refl, ap, ◌∙◌}
use mathlib.Core.List.{List, []}
use Prim.Native.Nat.{ℕ, ◌+◌, ◌*◌, ◌/◌, ◌%◌, ◌≤◌, ◌<◌}
use native.Mathlib.Nat.{mod-eq_of_lt}
use native.Mathlib.Numerals.{add-one}
use native.Mathlib.Omega.{arith}
use lib.Dec.{ltb, ltb→lt}
use lib.ListN.{length, get_or, take, set}
use borrow.Author.Tests.{lt-ltb, le-ltb}
use Rattle.laws.specs.Offsets.{tabulate}
use Rattle.laws.proofs.Choice.{taken, left}
use Rattle.laws.proofs.Offsets.{tabulate_store}
use Rattle.laws.proofs.Table.{at}
use Rattle.word.specs.Word.{le32, from_le}
use Rattle.md_5.specs.declared.State.{State}
use Rattle.md_5.specs.Md5.{aux_F, aux_G, aux_H, aux_I, mixed, order, shifts, table, stepped, step, steps}

module _ (t x y z : ℕ) where
  pub mixed_F : t < 16 → mixed t x y z ≡ aux_F x y z
  mixed_F h = taken _ _ (lt-ltb t 16 h)

  pub mixed_G : 16 ≤ t → t < 32 → mixed t x y z ≡ aux_G x y z
  mixed_G g h = left _ _ (le-ltb t 16 g) ∙ taken _ _ (lt-ltb t 32 h)

  pub mixed_H : 32 ≤ t → t < 48 → mixed t x y z ≡ aux_H x y z
  mixed_H g h = left _ _ (le-ltb t 16 (omega arith)) ∙ left _ _ (le-ltb t 32 g) ∙ taken _ _ (lt-ltb t 48 h)

  pub mixed_I : 48 ≤ t → mixed t x y z ≡ aux_I x y z
  mixed_I g = left _ _ (le-ltb t 16 (omega arith)) ∙ left _ _ (le-ltb t 32 (omega arith)) ∙ left _ _ (le-ltb t 48 g)

-- each entry of the order is a word of the block
pub order_fits : (t : ℕ) → t < 64 → get_or order t 0 < 16
order_fits t h = ltb→lt (get_or order t 0) 16 (at (λ (i n : ℕ). ltb n 16) order tt t h)

-- each count is below the width
count_fits : (i : ℕ) → i < 16 → get_or shifts i 0 % 32 ≡ get_or shifts i 0
count_fits i h = mod-eq_of_lt (ltb→lt (get_or shifts i 0) 32 (at (λ (j n : ℕ). ltb n 32) shifts tt i h))

pub none_yet : (x : List ℕ) (v : State) → v ≡ steps x v 0
unfolding steps
none_yet x v = refl

-- an operation's result, where the value before it is that after t operations
pub one_more : (x : List ℕ) (u v r : State) (t fₜ : ℕ) → t < 64 → v ≡ steps x u t → fₜ ≡ mixed t v.b v.c v.d
    → r ≡ stepped v fₜ (get_or x (get_or order t 0) 0) (get_or shifts (t / 16 * 4 + t % 4) 0 % 32) (get_or table t 0)
    → r ≡ steps x u (t + 1)
unfolding steps step
one_more x u v r t fₜ h e g q =
    rw add-one (q ∙ rw (count_fits (t / 16 * 4 + t % 4) (omega arith), g) (ap (λ (s : State). step t x s) e))

pub load_more : (m x : List ℕ) (i y : ℕ) → i < 16 → length x ≡ 16 → take i x ≡ tabulate (λ (n : ℕ). le32 m (n * 4)) i
    → y ≡ from_le (get_or m (i * 4) 0) (get_or m (i * 4 + 1) 0) (get_or m (i * 4 + 2) 0) (get_or m (i * 4 + 3) 0)
    → take (i + 1) (set x i y) ≡ tabulate (λ (n : ℕ). le32 m (n * 4)) (i + 1)
unfolding le32
load_more m x i y h l e g = tabulate_store (λ (n : ℕ). le32 m (n * 4)) x i y (omega arith) e g

pub none_loaded : (f : ℕ → ℕ) → ◌≡◌ {A = List ℕ} [] (tabulate f 0)
unfolding tabulate
none_loaded f = refl
