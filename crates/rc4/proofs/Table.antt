-- The table under swaps, and one step more of the key mixing and of the keystream, as the code takes them.
-- The two entries that a step adds have the same sum before and after their swap.
-- Assumes nothing.
use mathlib.Core.Path.{◌≡◌, refl, sym, ap, ◌∙◌}
use mathlib.Core.List.{List}
use mathlib.Core.Bool.{Bool, true, false}
use Rattle.std.specs.Prelude.{Some, None}
use Prim.Native.Nat.{ℕ, zero, suc, ◌+◌, ◌%◌, ◌≤◌, ◌<◌, min}
use native.Mathlib.Nat.{add_comm, add-zero, add-suc}
use native.Mathlib.Numerals.{add-one}
use native.Mathlib.Omega.{arith}
use borrow.Author.Tests.{eq-eqb, ne_eqb}
use lib.Dec.{eqb}
use lib.ListN.{length, get_or, take, set, length-set}
use lib.Seq.{get_or-set_same, get_or-set_other, take_all}
use Rattle.laws.specs.Choice.{pick, within}
use Rattle.laws.specs.Offsets.{tabulate}
use Rattle.laws.proofs.Choice.{same_or, stop, skip, within_yes, within_from}
use Rattle.laws.proofs.Written.{Written, written_all}
use Rattle.rc4.specs.declared.Keystream.{Keystream}
use Rattle.rc4.specs.Rc4.{identity, swap, mix, mixing, keyed, made, next, given, after, byte_from, applied, Applies}

pub length_swap : (t : List ℕ) (i j : ℕ) → length (swap t i j) ≡ length t
unfolding swap
length_swap t i j = simp length-set

module _ (t : List ℕ) (i j : ℕ) (hi : i < length t) (hj : j < length t) where
  at_j : get_or (swap t i j) j 0 ≡ get_or t i 0
  unfolding swap
  at_j = get_or-set_same (set t i (get_or t j 0)) j (get_or t i 0) 0 (rw length-set hj)

  at_i : get_or (swap t i j) i 0 ≡ get_or t j 0
  unfolding swap
  at_i =
      same_or i j
      (λ e. let s : get_or (swap t i j) i 0 ≡ get_or t i 0 = ap (λ (n : ℕ). get_or (swap t i j) n 0) e ∙ at_j in s ∙ ap (λ (n : ℕ). get_or t n 0) e)
      (λ e. get_or-set_other (set t i (get_or t j 0)) j i (get_or t i 0) 0 e ∙ get_or-set_same t i (get_or t j 0) 0 hi)

  swap_sum : get_or (swap t i j) i 0 + get_or (swap t i j) j 0 ≡ get_or t i 0 + get_or t j 0
  swap_sum = rw (at_i, at_j) (add_comm (get_or t j 0) (get_or t i 0))

-- a table filled with 0 to 255
pub filled : (i : ℕ) (t : List ℕ) → 256 ≡ i → length t ≡ 256 → take i t ≡ tabulate (λ (n : ℕ). n) i → t ≡ identity
unfolding identity
filled i t e h w = sym (take_all 256 t (omega arith)) ∙ (rw (← e) at w)

-- the early load: the entry at another index than i after the swap is entry i where that index is j, and else what stood there before
pub entry_after : (t : List ℕ) (i j m : ℕ) → j < length t → (m ≡ i → ⊥) → get_or (swap t i j) m 0 ≡ pick (eqb m j) (get_or t i 0) (get_or t m 0)
unfolding swap
entry_after t i j m hj other =
    let a = get_or t i 0 in
    let half_done = set t i (get_or t j 0) in
    same_or m j
    (λ e. ap (λ (n : ℕ). get_or (swap t i j) n 0) e ∙ get_or-set_same half_done j a 0 (rw length-set hj) ∙ stop _ (eq-eqb m j e))
    (λ e. skip _ (ne_eqb m j e) (get_or-set_other half_done j m a 0 e ∙ get_or-set_other t i m (get_or t j 0) 0 other))

-- the same as the code has it: a is entry i, and x was picked
pub loaded_early : (t : List ℕ) (i j m a x : ℕ) → a ≡ get_or t i 0 → j < length t → (m ≡ i → ⊥) → x ≡ pick (eqb m j) a (get_or t m 0)
    → x ≡ get_or (set (set t i (get_or t j 0)) j a) m 0
unfolding swap
loaded_early t i j m a x ea hj other ex = ex ∙ rw ea (sym (entry_after t i j m hj other))

-- the key mixing
pub mixing_none : (key : List ℕ) → record { table = identity; j = 0 } ≡ mixing key 0
unfolding mixing
mixing_none key = refl

pub mixing_more : (key t : List ℕ) (i j j' : ℕ) → record { table = t; j = j } ≡ mixing key i → j' ≡ (j + get_or t i 0 + get_or key (i % length key) 0) % 256
    → record { table = set (set t i (get_or t j' 0)) j' (get_or t i 0); j = j' } ≡ mixing key (i + 1)
unfolding mixing mix swap
mixing_more key t i j j' e g = rw (add-one i, ← e, g)

-- the keystream
pub after_none : (k : Keystream) → k ≡ after k 0
unfolding after
after_none k = refl

module _ (k : Keystream) (t : List ℕ) (i j n i' j' : ℕ) (e : record { table = t; i = i; j = j } ≡ after k n) (gi : i' ≡ (i + 1) % 256)
    (gj : j' ≡ (j + get_or t i' 0) % 256) where
  pub after_more : record { table = set (set t i' (get_or t j' 0)) j' (get_or t i' 0); i = i'; j = j' } ≡ after k (n + 1)
  unfolding after next swap
  after_more = rw (add-one n, ← e, gj, gi)

  pub byte_more : i' < length t → j' < length t → get_or (set (set t i' (get_or t j' 0)) j' (get_or t i' 0)) ((get_or t i' 0 + get_or t j' 0) % 256) 0 ≡ byte_from k n
  unfolding byte_from given swap
  byte_more hi hj = ap (λ (s : ℕ). get_or (swap t i' j') (s % 256) 0) (sym (swap_sum t i' j' hi hj)) ∙ ap given (after_more ∙ ap (after k) (add-one n))

-- what the loop over the bytes leaves
pub applies : (k : Keystream) (s d t d' : List ℕ) (i j n : ℕ) → n ≡ min (length s) (length d)
    → record { table = t; i = i; j = j } ≡ after k n → Written (applied k s) 0 n d d' → Applies k s d (record { table = t; i = i; j = j }) d'
applies k s d t d' i j n q e w =
    let le : n ≤ length d = omega arith in
    record {
      keystream = rw (← q) e;
      bytes = rw q at (written_all (applied k s) n d d' le w);
    }

-- a keystream that starts with a key's table
pub table_keyed : (key t : List ℕ) → t ≡ (mixing key 256).table → record { table = t; i = 0; j = 0 } ≡ keyed key
unfolding keyed
table_keyed key t e = ap (λ (l : List ℕ). record { table = l; i = 0; j = 0 }) e

-- what making a keystream answers, by the key's length
pub made_some : (key : List ℕ) → within 5 16 (length key) ≡ true → Some (keyed key) ≡ made key
unfolding made
made_some key e = stop _ e

pub made_none : (key : List ℕ) → within 5 16 (length key) ≡ false → None ≡ made key
unfolding made
made_none key e = skip _ e refl

pub made_keyed : (key : List ℕ) → 5 ≤ length key → length key ≤ 16 → Some (keyed key) ≡ made key
made_keyed key g h = made_some key (within_yes 5 16 (length key) g h)

-- what the answer says of the key
pub some_fits : (key : List ℕ) (k : Keystream) → made key ≡ Some k → (within 5 16 (length key) ≡ true) × (k ≡ keyed key)
unfolding made pick
some_fits key k = by (within 5 16 (length key))
  where
    by : (t : Bool) → pick t (Some (keyed key)) None ≡ Some k → (t ≡ true) × (k ≡ keyed key)
    by true e = (refl, cc)
    by false e = cc

pub none_fits : (key : List ℕ) → made key ≡ None → within 5 16 (length key) ≡ false
unfolding made pick
none_fits key = by (within 5 16 (length key))
  where
    by : (t : Bool) → pick t (Some (keyed key)) None ≡ None → t ≡ false
    by true e = cc
    by false e = refl

-- a key that fits has bytes
pub some_bytes : (key : List ℕ) → within 5 16 (length key) ≡ true → 0 < length key
some_bytes key e =
    let h = within_from 5 16 (length key) e in
    omega arith

-- a keystream that is taken up again where it stopped goes on as if unbroken
pub after_after : (k : Keystream) (m n : ℕ) → after (after k m) n ≡ after k (m + n)
unfolding after
after_after k m zero = rw add-zero
after_after k m (suc n) = ap next (after_after k m n) ∙ ap (after k) (sym (add-suc m n))

pub byte_resumed : (k : Keystream) (m n : ℕ) → byte_from (after k m) n ≡ byte_from k (m + n)
unfolding byte_from
byte_resumed k m n = ap given (after_after k m (suc n) ∙ ap (after k) (add-suc m n))
