-- The table is at every step a rearrangement of the 256 byte values: 0 to 255 is one, and a swap keeps how often each value stands in it,
-- since a store takes one tick away for the old entry and adds one for the new.
-- Assumes nothing.
use mathlib.Core.Path.{◌≡◌, refl, sym, ap, ◌∙◌}
use mathlib.Core.List.{List, [], ◌∷◌, ◌++◌}
use Prim.Native.Nat.{ℕ, zero, suc, ◌+◌, ◌%◌, ◌≤◌, ◌<◌}
use native.Mathlib.Nat.{not-suc-le-zero, le_of_suc-le-suc, zero-add, add_assoc, mod-lt}
use native.Mathlib.Omega.{arith}
use lib.Dec.{eqb, ltb, lit<}
use lib.ListN.{length, get_or, set, length-set, get_or-eq_default}
use lib.Seq.{get_or-set_same, get_or-set_other}
use borrow.Author.Tests.{lt-ltb, le-ltb, eq-eqb, ne_eqb}
use Rattle.laws.specs.Choice.{pick}
use Rattle.laws.specs.Offsets.{tabulate}
use Rattle.laws.proofs.Choice.{taken, left, either, same_or}
use Rattle.laws.proofs.Offsets.{length_tabulate}
use Rattle.rc4.specs.declared.Keystream.{Keystream}
use Rattle.rc4.specs.Rc4.{identity, swap, mix, mixing, keyed, next, after, count, Rearranged}
use Rattle.rc4.proofs.Table.{length_swap}

-- the tick of a value for an entry
abbrev tick : ℕ → ℕ → ℕ
tick v x = pick (eqb v x) 1 0

count_cons : (v x : ℕ) (t : List ℕ) → count v (x ∷ t) ≡ tick v x + count v t
unfolding count
count_cons v x t = refl

-- a store takes the old entry's tick away and adds the new one's
count_set : (v : ℕ) (t : List ℕ) (i x : ℕ) → i < length t → count v (set t i x) + tick v (get_or t i 0) ≡ count v t + tick v x
unfolding count
count_set v [] i x h = absurd (not-suc-le-zero h)
count_set v (y ∷ t) zero x h = omega arith
count_set v (y ∷ t) (suc i) x h = let e : count v (set t i x) + tick v (get_or t i 0) ≡ count v t + tick v x = count_set v t i x (le_of_suc-le-suc h) in omega arith

count_swap : (v : ℕ) (t : List ℕ) (i j : ℕ) → i < length t → j < length t → count v (swap t i j) ≡ count v t
unfolding swap
count_swap v t i j hi hj =
    let a = get_or t i 0 in
    let b = get_or t j 0 in
    let e : count v (set t i b) + tick v a ≡ count v t + tick v b = count_set v t i b hi in
    let f : count v (set (set t i b) j a) + tick v (get_or (set t i b) j 0) ≡ count v (set t i b) + tick v a = count_set v (set t i b) j a (rw length-set hj) in
    let g : get_or (set t i b) j 0 ≡ b =
    same_or j i (λ q. ap (λ (n : ℕ). get_or (set t i b) n 0) q ∙ get_or-set_same t i b 0 hi) (λ q. get_or-set_other t i j b 0 q) in
    let p : tick v (get_or (set t i b) j 0) ≡ tick v b = ap (tick v) g in
    omega arith

pub swap_rearranged : (t : List ℕ) (i j : ℕ) → i < 256 → j < 256 → Rearranged t → Rearranged (swap t i j)
unfolding Rearranged
swap_rearranged t i j hi hj r =
    (length_swap t i j ∙ r.0, λ v. count_swap v t i j (rw r.0 hi) (rw r.0 hj) ∙ r.1 v)

-- every entry of a rearrangement is below 256, since no other value stands in it
count_entry : (t : List ℕ) (i : ℕ) → i < length t → 1 ≤ count (get_or t i 0) t
unfolding count
count_entry [] i h = absurd (not-suc-le-zero h)
count_entry (y ∷ t) zero h = rw (taken {X = ℕ} 1 0 (eq-eqb y y refl)) (omega arith)
count_entry (y ∷ t) (suc i) h = let k = count_entry t i (le_of_suc-le-suc h) in omega arith

pub rearranged_length : (t : List ℕ) → Rearranged t → length t ≡ 256
unfolding Rearranged
rearranged_length t r = r.0

pub rearranged_small : (t : List ℕ) (i : ℕ) → Rearranged t → get_or t i 0 < 256
unfolding Rearranged
rearranged_small t i r =
    either (length t) i
    (λ h. rw (get_or-eq_default t 0 h) (omega arith))
    (λ h. either 256 (get_or t i 0)
    (λ k.
    let none : count (get_or t i 0) t ≡ 0 = r.1 (get_or t i 0) ∙ left {X = ℕ} 1 0 (le-ltb (get_or t i 0) 256 k) in
    let one = count_entry t i h in
    absurd (no (count (get_or t i 0) t) none one))
    (λ k. k))
  where
    no : (n : ℕ) → n ≡ 0 → 1 ≤ n → ⊥
    no n e h = omega arith

-- 0 to n - 1 has each value below n once
count_append : (v : ℕ) (s t : List ℕ) → count v (s ++ t) ≡ count v s + count v t
unfolding count
count_append v [] t = sym (zero-add (count v t))
count_append v (x ∷ s) t = ap (λ (n : ℕ). tick v x + n) (count_append v s t) ∙ sym (add_assoc (tick v x) (count v s) (count v t))

count_upto : (v n : ℕ) → count v (tabulate (λ (i : ℕ). i) n) ≡ pick (ltb v n) 1 0
unfolding tabulate count
count_upto v zero = sym (left {X = ℕ} 1 0 (le-ltb v 0 (omega arith)))
count_upto v (suc n) =
    count_append v (tabulate (λ (i : ℕ). i) n) (n ∷ [])
    ∙ ap (λ (k : ℕ). k + (tick v n + 0)) (count_upto v n)
    ∙ last
  where
    last : pick (ltb v n) 1 0 + (tick v n + 0) ≡ pick (ltb v (suc n)) 1 0
    last =
        same_or v n
        (λ e. rw (left {X = ℕ} 1 0 (le-ltb v n (omega arith)), taken {X = ℕ} 1 0 (eq-eqb v n e), taken {X = ℕ} 1 0 (lt-ltb v (suc n) (omega arith))))
        (λ e. either n v
        (λ h. rw (left {X = ℕ} 1 0 (le-ltb v n h), left {X = ℕ} 1 0 (ne_eqb v n e), left {X = ℕ} 1 0 (le-ltb v (suc n) (omega arith))))
        (λ h. rw (taken {X = ℕ} 1 0 (lt-ltb v n h), left {X = ℕ} 1 0 (ne_eqb v n e), taken {X = ℕ} 1 0 (lt-ltb v (suc n) (omega arith)))))

pub identity_rearranged : Rearranged identity
unfolding Rearranged identity
identity_rearranged = (length_tabulate (λ (i : ℕ). i) 256, λ v. count_upto v 256)

-- the key mixing, for a key of any length
pub mixing_rearranged : (key : List ℕ) (n : ℕ) → n ≤ 256 → Rearranged (mixing key n).table
unfolding mixing mix
mixing_rearranged key zero h = identity_rearranged
mixing_rearranged key (suc n) h =
    let m = mixing key n in
    swap_rearranged m.table n ((m.j + get_or m.table n 0 + get_or key (n % length key) 0) % 256) h (mod-lt _ (lit< tt)) (mixing_rearranged key n (omega arith))

-- the keystream, at every step
pub after_rearranged : (k : Keystream) (n : ℕ) → Rearranged k.table → Rearranged (after k n).table
unfolding after next
after_rearranged k zero r = r
after_rearranged k (suc n) r =
    let u = after k n in
    let i = (u.i + 1) % 256 in
    swap_rearranged u.table i ((u.j + get_or u.table i 0) % 256) (mod-lt _ (lit< tt)) (mod-lt _ (lit< tt)) (after_rearranged k n r)

pub keystream_rearranged : (key : List ℕ) (n : ℕ) → Rearranged (after (keyed key) n).table
unfolding keyed
keystream_rearranged key n = after_rearranged (keyed key) n (mixing_rearranged key 256 (omega arith))
