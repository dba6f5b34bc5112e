-- The message schedule: one word more, from the block or from four words before it.
-- Assumes nothing.
use mathlib.Core.Path.{◌≡◌, refl, sym, ap, ◌∙◌}
use mathlib.Core.List.{List, [], ◌∷◌, ◌++◌}
use Prim.Native.Nat.{ℕ, ◌+◌, ◌-◌, ◌*◌, ◌≤◌, ◌<◌}
use native.Mathlib.Numerals.{add-one}
use native.Mathlib.Omega.{arith}
use lib.Bits.{bit_xor}
use lib.ListN.{length, get_or, take, set}
use lib.Seq.{take-suc-set, get_or-take}
use borrow.Author.Tests.{lt-ltb, le-ltb}
use Rattle.laws.proofs.Choice.{taken, left}
use Rattle.word.specs.Word.{rotl, be32, from_be}
use Rattle.sha_1.specs.Sha1.{schedule}

low : (m : List ℕ) (t : ℕ) → t < 16 → schedule m (t + 1) ≡ schedule m t ++ (be32 m (t * 4) ∷ [])
unfolding schedule
low m t h = rw (add-one t) (ap (λ (x : ℕ). schedule m t ++ (x ∷ [])) (taken _ _ (lt-ltb t 16 h)))

abbrev next : List ℕ → ℕ → ℕ
next w t = rotl 32 1 (bit_xor (bit_xor (bit_xor (get_or w (t - 3) 0) (get_or w (t - 8) 0)) (get_or w (t - 14) 0)) (get_or w (t - 16) 0))

high : (m : List ℕ) (t : ℕ) → 16 ≤ t → schedule m (t + 1) ≡ schedule m t ++ (next (schedule m t) t ∷ [])
unfolding schedule
high m t h = rw (add-one t) (ap (λ (x : ℕ). schedule m t ++ (x ∷ [])) (left _ _ (le-ltb t 16 h)))

-- a word that is loaded is the schedule's
pub load_more : (m w : List ℕ) (t x : ℕ) → t < 16 → length w ≡ 80 → take t w ≡ schedule m t
    → x ≡ from_be (get_or m (t * 4) 0) (get_or m (t * 4 + 1) 0) (get_or m (t * 4 + 2) 0) (get_or m (t * 4 + 3) 0)
    → take (t + 1) (set w t x) ≡ schedule m (t + 1)
unfolding be32
load_more m w t x h l e g =
    rw (low m t h) (ap (λ (n : ℕ). take n (set w t x)) (add-one t) ∙ take-suc-set w t x (omega arith) ∙ rw (e, g))

-- so is one that is made of words before it
pub extend_more : (m w : List ℕ) (t x : ℕ) → 16 ≤ t → t < 80 → length w ≡ 80 → take t w ≡ schedule m t → x ≡ next w t → take (t + 1) (set w t x) ≡ schedule m (t + 1)
extend_more m w t x h k l e g =
    ap (λ (n : ℕ). take n (set w t x)) (add-one t)
    ∙ take-suc-set w t x (omega arith)
    ∙ rw (e, g, ← same 3 (omega arith), ← same 8 (omega arith), ← same 14 (omega arith), ← same 16 (omega arith)) (sym (high m t h))
  where
    same : (i : ℕ) → t - i < t → get_or (schedule m t) (t - i) 0 ≡ get_or w (t - i) 0
    same i q = rw (← e) (get_or-take t w (t - i) 0 q)

pub none_yet : (m : List ℕ) → ◌≡◌ {A = List ℕ} [] (schedule m 0)
unfolding schedule
none_yet m = refl
