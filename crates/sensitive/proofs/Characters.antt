-- A character and its bytes: a character stands at an offset exactly where the bytes of its code point, by RFC 3629's table, stand there.
-- Assumes nothing.
use mathlib.Core.Path.{◌≡◌, refl, sym, ap, ◌∙◌}
use mathlib.Core.Bool.{Bool, true, false, ◌&&◌, ◌||◌, and-eq-true_iff}
use mathlib.Core.List.{List, [], ◌∷◌, ◌++◌}
use Prim.Native.Nat.{ℕ, suc, ◌+◌, ◌-◌, ◌*◌, ◌/◌, ◌%◌, ◌^◌, ◌≤◌, ◌<◌}
use native.Mathlib.Nat.{add-zero, add-suc}
use native.Mathlib.Omega.{arith}
use lib.Dec.{eqb, ltb}
use lib.ListN.{length, get_or, drop, length-drop, get_or-eq_default}
use lib.Pow.{shr-shr, split}
use lib.Seq.{drop-cons, get_or-drop}
use borrow.Author.Tests.{lt-ltb, le-ltb, le-leb, lt-leb, ne_eqb, ltb-true, eqb-true}
use Rattle.laws.specs.Choice.{within}
use Rattle.laws.proofs.Choice.{taken, left, either, same_or, within_yes, within_high, within_from, within_to}
use Rattle.sensitive.specs.Utf8.{tail, one, two, three, four, point2, point3, point4, character, char_at, is_scalar, utf8}
use Rattle.sensitive.specs.declared.Char.{Char}
use Rattle.sensitive.specs.declared.Char.TheVariants.{Point, Malformed, End}

module _ {X : Type 0} where
  by_test : (t : Bool) → (t ≡ true → X) → (t ≡ false → X) → X
  by_test true f g = f refl
  by_test false f g = g refl

  by_or : (t u : Bool) → (t || u) ≡ true → (t ≡ true → X) → (u ≡ true → X) → X
  by_or true u e f g = f refl
  by_or false u e f g = g e

  by_and : (t u : Bool) → (t && u) ≡ true → (t ≡ true → u ≡ true → X) → X
  by_and t u e f = let b = (and-eq-true_iff t u).0 e in f b.0 b.1

  in_range : (lo hi x : ℕ) → within lo hi x ≡ true → (lo ≤ x → x ≤ hi → X) → X
  in_range lo hi x e f = f (within_from lo hi x e) (within_to lo hi x e)

  in_both : (lo hi a lo' hi' b : ℕ) → (within lo hi a && within lo' hi' b) ≡ true → (lo ≤ a → a ≤ hi → lo' ≤ b → b ≤ hi' → X) → X
  in_both lo hi a lo' hi' b e f = by_and (within lo hi a) _ e (λ g h. in_range lo hi a g (λ k l. in_range lo' hi' b h (f k l)))

  is_both : (x a lo hi b : ℕ) → (eqb a x && within lo hi b) ≡ true → (a ≡ x → lo ≤ b → b ≤ hi → X) → X
  is_both x a lo hi b e f = by_and (eqb a x) _ e (λ g h. in_range lo hi b h (f (eqb-true a x g)))

-- the code points that UTF-8 encodes
scalar_low : (p : ℕ) → p < 0xD800 → is_scalar p ≡ true
scalar_low p h = rw (lt-ltb p 0xD800 h)

scalar_high : (p : ℕ) → 0xE000 ≤ p → p ≤ 0x10FFFF → is_scalar p ≡ true
scalar_high p h k = rw (le-ltb p 0xD800 (omega arith), within_yes 0xE000 0x10FFFF p h k)

by_scalar : {X : Type 0} (p : ℕ) → is_scalar p ≡ true → (p < 0xD800 → X) → (0xE000 ≤ p → p ≤ 0x10FFFF → X) → X
by_scalar p e f g = by_or (ltb p 0xD800) _ e (λ l. f (ltb-true p 0xD800 l)) (λ l. in_range 0xE000 0x10FFFF p l g)

-- the bytes of a code point, by its size
pub utf8_1 : (p : ℕ) → p < 0x80 → utf8 p ≡ p ∷ []
unfolding utf8
utf8_1 p h = taken _ _ (lt-ltb p 0x80 h)

pub utf8_2 : (p a b : ℕ) → 0x80 ≤ p → p < 0x800 → 0xC0 + p / 2 ^ 6 ≡ a → 0x80 + p % 2 ^ 6 ≡ b → utf8 p ≡ a ∷ b ∷ []
unfolding utf8
utf8_2 p a b h k e f = left _ _ (le-ltb p 0x80 h) ∙ taken _ _ (lt-ltb p 0x800 k) ∙ rw (e, f)

pub utf8_3 : (p a b c : ℕ) → 0x800 ≤ p → p < 0x10000 → 0xE0 + p / 2 ^ 12 ≡ a → 0x80 + p / 2 ^ 6 % 2 ^ 6 ≡ b → 0x80 + p % 2 ^ 6 ≡ c → utf8 p ≡ a ∷ b ∷ c ∷ []
unfolding utf8
utf8_3 p a b c h k e f g =
    left _ _ (le-ltb p 0x80 (omega arith)) ∙ left _ _ (le-ltb p 0x800 h) ∙ taken _ _ (lt-ltb p 0x10000 k) ∙ rw (e, f, g)

pub utf8_4 : (p a b c d : ℕ) → 0x10000 ≤ p → 0xF0 + p / 2 ^ 18 ≡ a → 0x80 + p / 2 ^ 12 % 2 ^ 6 ≡ b → 0x80 + p / 2 ^ 6 % 2 ^ 6 ≡ c → 0x80 + p % 2 ^ 6 ≡ d
    → utf8 p ≡ a ∷ b ∷ c ∷ d ∷ []
unfolding utf8
utf8_4 p a b c d h e f g i =
    left _ _ (le-ltb p 0x80 (omega arith)) ∙ left _ _ (le-ltb p 0x800 (omega arith)) ∙ left _ _ (le-ltb p 0x10000 h) ∙ rw (e, f, g, i)

-- the four sizes
pub by_size : {X : Type 0} (p : ℕ) → (p < 0x80 → X) → (0x80 ≤ p → p < 0x800 → X) → (0x800 ≤ p → p < 0x10000 → X) → (0x10000 ≤ p → X) → X
by_size p f g h k = either 0x80 p (λ l. either 0x800 p (λ m. either 0x10000 p k (h m)) (g l)) f

pub utf8_some : (p : ℕ) → 0 < length (utf8 p)
utf8_some p =
    by_size p (λ k. rw (utf8_1 p k) (omega arith)) (λ h k. rw (utf8_2 p _ _ h k refl refl) (omega arith))
    (λ h k. rw (utf8_3 p _ _ _ h k refl refl refl) (omega arith)) (λ h. rw (utf8_4 p _ _ _ _ h refl refl refl refl) (omega arith))

-- the bytes that a rule of section 4 takes are those of its code point, which is one that UTF-8 encodes, and the last of several is not 0
abbrev Codes : ℕ → List ℕ → Type 0
Codes p bs = (is_scalar p ≡ true) × (utf8 p ≡ bs)

codes_1 : (a : ℕ) → one a ≡ true → Codes a (a ∷ [])
codes_1 a e = in_range 0x00 0x7F a e λ h k. (scalar_low a (omega arith), utf8_1 a (omega arith))

codes_2 : (a b : ℕ) → two a b ≡ true → (0 < b) × Codes (point2 a b) (a ∷ b ∷ [])
codes_2 a b e =
    let p = point2 a b in
    in_both 0xC2 0xDF a 0x80 0xBF b e λ h k l m.
    (omega arith, (scalar_low p (omega arith), utf8_2 p a b (omega arith) (omega arith) (omega arith) (omega arith)))

module _ (a b c : ℕ) where
  module _ (n : 0x80 ≤ c) (o : c ≤ 0xBF) where
    row_3 : 0xE0 ≤ a → a ≤ 0xEF → 0x80 ≤ b → b ≤ 0xBF → 0x800 ≤ point3 a b c → is_scalar (point3 a b c) ≡ true → Codes (point3 a b c) (a ∷ b ∷ c ∷ [])
    row_3 h k l m q s = (s, utf8_3 (point3 a b c) a b c q (omega arith) (omega arith) (omega arith) (omega arith))

    from_e0 : (eqb a 0xE0 && within 0xA0 0xBF b) ≡ true → Codes (point3 a b c) (a ∷ b ∷ c ∷ [])
    from_e0 e =
        is_both 0xE0 a 0xA0 0xBF b e λ h l m. row_3 (omega arith) (omega arith) (omega arith) m (omega arith) (scalar_low (point3 a b c) (omega arith))

    from_e1 : (within 0xE1 0xEC a && tail b) ≡ true → Codes (point3 a b c) (a ∷ b ∷ c ∷ [])
    from_e1 e =
        in_both 0xE1 0xEC a 0x80 0xBF b e λ h k l m. row_3 (omega arith) (omega arith) l m (omega arith) (scalar_low (point3 a b c) (omega arith))

    from_ed : (eqb a 0xED && within 0x80 0x9F b) ≡ true → Codes (point3 a b c) (a ∷ b ∷ c ∷ [])
    from_ed e =
        is_both 0xED a 0x80 0x9F b e λ h l m. row_3 (omega arith) (omega arith) l (omega arith) (omega arith) (scalar_low (point3 a b c) (omega arith))

    from_ee : (within 0xEE 0xEF a && tail b) ≡ true → Codes (point3 a b c) (a ∷ b ∷ c ∷ [])
    from_ee e =
        in_both 0xEE 0xEF a 0x80 0xBF b e λ h k l m. row_3 (omega arith) k l m (omega arith) (scalar_high (point3 a b c) (omega arith) (omega arith))

  codes_3 : three a b c ≡ true → (0 < c) × Codes (point3 a b c) (a ∷ b ∷ c ∷ [])
  unfolding three
  codes_3 e =
      by_and _ (tail c) e λ e g.
      in_range 0x80 0xBF c g λ n o.
      (omega arith, by_or _ _ e (λ e. by_or _ _ e (λ e. by_or _ _ e (from_e0 n o) (from_e1 n o)) (from_ed n o)) (from_ee n o))

module _ (a b c d : ℕ) where
  module _ (n : 0x80 ≤ c) (o : c ≤ 0xBF) (q : 0x80 ≤ d) (r : d ≤ 0xBF) where
    row_4 : 0xF0 ≤ a → a ≤ 0xF4 → 0x80 ≤ b → b ≤ 0xBF → 0x10000 ≤ point4 a b c d → point4 a b c d ≤ 0x10FFFF → Codes (point4 a b c d) (a ∷ b ∷ c ∷ d ∷ [])
    row_4 h k l m s t =
        (scalar_high (point4 a b c d) (omega arith) t, utf8_4 (point4 a b c d) a b c d s (omega arith) (omega arith) (omega arith) (omega arith))

    from_f0 : (eqb a 0xF0 && within 0x90 0xBF b) ≡ true → Codes (point4 a b c d) (a ∷ b ∷ c ∷ d ∷ [])
    from_f0 e = is_both 0xF0 a 0x90 0xBF b e λ h l m. row_4 (omega arith) (omega arith) (omega arith) m (omega arith) (omega arith)

    from_f1 : (within 0xF1 0xF3 a && tail b) ≡ true → Codes (point4 a b c d) (a ∷ b ∷ c ∷ d ∷ [])
    from_f1 e = in_both 0xF1 0xF3 a 0x80 0xBF b e λ h k l m. row_4 (omega arith) (omega arith) l m (omega arith) (omega arith)

    from_f4 : (eqb a 0xF4 && within 0x80 0x8F b) ≡ true → Codes (point4 a b c d) (a ∷ b ∷ c ∷ d ∷ [])
    from_f4 e = is_both 0xF4 a 0x80 0x8F b e λ h l m. row_4 (omega arith) (omega arith) l (omega arith) (omega arith) (omega arith)

  codes_4 : four a b c d ≡ true → (0 < d) × Codes (point4 a b c d) (a ∷ b ∷ c ∷ d ∷ [])
  unfolding four
  codes_4 e =
      by_and _ (tail d) e λ e f.
      by_and _ (tail c) e λ e g.
      in_range 0x80 0xBF c g λ n o.
      in_range 0x80 0xBF d f λ q r.
      (omega arith, by_or _ _ e (λ e. by_or _ _ e (from_f0 n o q r) (from_f1 n o q r)) (from_f4 n o q r))

tail_yes : (x : ℕ) → x < 0x40 → tail (0x80 + x) ≡ true
tail_yes x h = within_yes 0x80 0xBF (0x80 + x) (omega arith) (omega arith)

-- the other way round: a rule takes the bytes of a code point
three_yes : (a b c : ℕ) → 0xE0 ≤ a → a ≤ 0xEF → tail b ≡ true → tail c ≡ true → (a ≡ 0xE0 → 0xA0 ≤ b) → (a ≡ 0xED → b ≤ 0x9F) → three a b c ≡ true
unfolding three
three_yes a b c h k e f first third =
    same_or a 0xE0 (λ q. rw (q, within_yes 0xA0 0xBF b (first q) (within_to 0x80 0xBF b e), f)) λ q.
    same_or a 0xED (λ r. rw (r, within_yes 0x80 0x9F b (within_from 0x80 0xBF b e) (third r), f)) λ r.
    either a 0xEC (λ g. rw (ne_eqb a 0xE0 q, within_yes 0xE1 0xEC a (omega arith) g, e, f))
    (λ g. rw (ne_eqb a 0xE0 q, within_high 0xE1 0xEC a g, ne_eqb a 0xED r, within_yes 0xEE 0xEF a (omega arith) k, e, f))

four_yes : (a b c d : ℕ) → 0xF0 ≤ a → a ≤ 0xF4 → tail b ≡ true → tail c ≡ true → tail d ≡ true → (a ≡ 0xF0 → 0x90 ≤ b) → (a ≡ 0xF4 → b ≤ 0x8F) → four a b c d ≡ true
unfolding four
four_yes a b c d h k e f g first third =
    same_or a 0xF0 (λ q. rw (q, within_yes 0x90 0xBF b (first q) (within_to 0x80 0xBF b e), f, g)) λ q.
    same_or a 0xF4 (λ r. rw (r, within_yes 0x80 0x8F b (within_from 0x80 0xBF b e) (third r), f, g))
    (λ r. rw (ne_eqb a 0xF0 q, within_yes 0xF1 0xF3 a (omega arith) (omega arith), e, f, g))

two_no : (a b : ℕ) → 0xDF < a → two a b ≡ false
two_no a b h = rw (within_high 0xC2 0xDF a h)

three_no : (a b c : ℕ) → 0xEF < a → three a b c ≡ false
unfolding three
three_no a b c h =
    rw (ne_eqb a 0xE0 (omega arith), within_high 0xE1 0xEC a (omega arith), ne_eqb a 0xED (omega arith), within_high 0xEE 0xEF a h)

-- the rules in their order
module _ (at a b c d : ℕ) where
  pub rule_1 : one a ≡ true → character at a b c d ≡ Point a (at + 1)
  unfolding character
  rule_1 e = taken _ _ e

  module _ (e1 : one a ≡ false) where
    pub rule_2 : two a b ≡ true → character at a b c d ≡ Point (point2 a b) (at + 2)
    unfolding character
    rule_2 e = left _ _ e1 ∙ taken _ _ e

    module _ (e2 : two a b ≡ false) where
      pub rule_3 : three a b c ≡ true → character at a b c d ≡ Point (point3 a b c) (at + 3)
      unfolding character
      rule_3 e = left _ _ e1 ∙ left _ _ e2 ∙ taken _ _ e

      module _ (e3 : three a b c ≡ false) where
        pub rule_4 : four a b c d ≡ true → character at a b c d ≡ Point (point4 a b c d) (at + 4)
        unfolding character
        rule_4 e = left _ _ e1 ∙ left _ _ e2 ∙ left _ _ e3 ∙ taken _ _ e

        pub no_rule : four a b c d ≡ false → character at a b c d ≡ Malformed
        unfolding character
        no_rule e = left _ _ e1 ∙ left _ _ e2 ∙ left _ _ e3 ∙ left _ _ e

  by_rule : {X : Type 0} {w : Char} → character at a b c d ≡ w → (one a ≡ true → Point a (at + 1) ≡ w → X) → (two a b ≡ true → Point (point2 a b) (at + 2) ≡ w → X)
      → (three a b c ≡ true → Point (point3 a b c) (at + 3) ≡ w → X) → (four a b c d ≡ true → Point (point4 a b c d) (at + 4) ≡ w → X) → (Malformed ≡ w → X) → X
  by_rule e f g h k m =
      by_test (one a) (λ e1. f e1 (sym (rule_1 e1) ∙ e)) λ e1.
      by_test (two a b) (λ e2. g e2 (sym (rule_2 e1 e2) ∙ e)) λ e2.
      by_test (three a b c) (λ e3. h e3 (sym (rule_3 e1 e2 e3) ∙ e)) λ e3.
      by_test (four a b c d) (λ e4. k e4 (sym (rule_4 e1 e2 e3 e4) ∙ e)) (λ e4. m (sym (no_rule e1 e2 e3 e4) ∙ e))

not_end : (p n : ℕ) → Point p n ≡ End → ⊥
not_end p n e = let z : ◌≡◌ {A = ℕ} 0 1 = cc in omega arith

not_bad : (p n : ℕ) → Malformed ≡ Point p n → ⊥
not_bad p n e = let z : ◌≡◌ {A = ℕ} 0 1 = cc in omega arith

-- a character p stands at `at` of a text, and the next one at `next`
pub record Stands (s : List ℕ) (at p next : ℕ) : Type 0 where
  pub scalar : is_scalar p ≡ true
  pub ends : next ≡ at + length (utf8 p)
  pub bytes : drop at s ≡ utf8 p ++ drop next s

module _ (s : List ℕ) (at : ℕ) where
  -- a byte that is not 0 is not past the end
  present : (k : ℕ) → 0 < get_or s (at + k) 0 → at + k < length s
  present k h = either (length s) (at + k) (λ l. let e = get_or-eq_default s 0 l in omega arith) (λ l. l)

  byte : (k : ℕ) → at + k < length s → drop (at + k) s ≡ get_or s (at + k) 0 ∷ drop (at + suc k) s
  byte k h = rw add-suc (drop-cons s (at + k) 0 h)

  first : at < length s → drop at s ≡ get_or s at 0 ∷ drop (at + 1) s
  first h = rw add-zero at (byte 0 (rw add-zero h))

  stands : {p k : ℕ} {bs : List ℕ} (q next : ℕ) → Point p (at + k) ≡ Point q next → Codes p bs → length bs ≡ k → drop at s ≡ bs ++ drop (at + k) s → Stands s at q next
  stands {p} {k} {bs} q next f c l e =
      let g : p ≡ q = cc in
      let h : at + k ≡ next = cc in
      rw (← g, ← h) (record { scalar = c.0; ends = rw (c.1, l); bytes = rw c.1 e })

  pub char_stands : (p next : ℕ) → char_at s at ≡ Point p next → Stands s at p next
  unfolding char_at
  char_stands p next e =
      let a = get_or s at 0 in
      let b = get_or s (at + 1) 0 in
      let c = get_or s (at + 2) 0 in
      let d = get_or s (at + 3) 0 in
      either (length s) at (λ h. absurd (not_end p next (sym e ∙ taken _ _ (le-leb _ _ h)))) λ h.
      by_rule at a b c d (sym (left End _ (lt-leb _ _ h)) ∙ e) (λ t f. stands p next f (codes_1 a t) refl (first h))
      (λ t f.
      let o = codes_2 a b t in
      let i = present 1 o.0 in
      stands p next f o.1 refl (rw (first h, byte 1 i)))
      (λ t f.
      let o = codes_3 a b c t in
      let i = present 2 o.0 in
      stands p next f o.1 refl (rw (first h, byte 1 (omega arith), byte 2 i)))
      (λ t f.
      let o = codes_4 a b c d t in
      let i = present 3 o.0 in
      stands p next f o.1 refl (rw (first h, byte 1 (omega arith), byte 2 (omega arith), byte 3 i)))
      (λ f. absurd (not_bad p next f))

  -- nothing stands there exactly at the end
  pub end_char : length s ≤ at → char_at s at ≡ End
  unfolding char_at
  end_char h = taken _ _ (le-leb (length s) at h)

  pub char_end : char_at s at ≡ End → length s ≤ at
  unfolding char_at
  char_end e =
      either (length s) at (λ h. h) λ h.
      by_rule at (get_or s at 0) (get_or s (at + 1) 0) (get_or s (at + 2) 0) (get_or s (at + 3) 0) (sym (left End _ (lt-leb _ _ h)) ∙ e) (λ t f. absurd (not_end _ _ f))
      (λ t f. absurd (not_end _ _ f)) (λ t f. absurd (not_end _ _ f)) (λ t f. absurd (not_end _ _ f))
      (λ f. let z : ◌≡◌ {A = ℕ} 0 1 = cc in omega arith)

-- the code point of four bytes is put together from its digits, to base 64
point4_back : (p : ℕ) → p < 0x200000 → point4 (0xF0 + p / 2 ^ 18) (0x80 + p / 2 ^ 12 % 2 ^ 6) (0x80 + p / 2 ^ 6 % 2 ^ 6) (0x80 + p % 2 ^ 6) ≡ p
point4_back p h =
    rw (lead, low (p / 2 ^ 12), low (p / 2 ^ 6), low p)
    (joined (p / 2 ^ 18) (p / 2 ^ 12) (p / 2 ^ 6) (p / 2 ^ 12 % 2 ^ 6) (p / 2 ^ 6 % 2 ^ 6) (p % 2 ^ 6) (rw (shr-shr p 12 6) at (split (p / 2 ^ 12) 6))
    (rw (shr-shr p 6 6) at (split (p / 2 ^ 6) 6)) (split p 6))
  where
    lead : (0xF0 + p / 2 ^ 18) % 2 ^ 3 ≡ p / 2 ^ 18
    lead = omega arith

    low : (x : ℕ) → (0x80 + x % 2 ^ 6) % 2 ^ 6 ≡ x % 2 ^ 6
    low x = omega arith

    joined : (x y z b c d : ℕ) → x * 2 ^ 6 + b ≡ y → y * 2 ^ 6 + c ≡ z → z * 2 ^ 6 + d ≡ p → x * 2 ^ 18 + b * 2 ^ 12 + c * 2 ^ 6 + d ≡ p
    joined x y z b c d e f g = omega arith

-- the character of a code point's bytes
module _ (at p : ℕ) where
  character_1 : (b c d : ℕ) → p < 0x80 → character at p b c d ≡ Point p (at + 1)
  character_1 b c d h = rule_1 at p b c d (within_yes 0x00 0x7F p (omega arith) (omega arith))

  character_2 : (c d : ℕ) → 0x80 ≤ p → p < 0x800 → character at (0xC0 + p / 2 ^ 6) (0x80 + p % 2 ^ 6) c d ≡ Point p (at + 2)
  character_2 c d h k =
      let a = 0xC0 + p / 2 ^ 6 in
      let b = 0x80 + p % 2 ^ 6 in
      rule_2 at a b c d (within_high 0x00 0x7F a (omega arith)) (rw (within_yes 0xC2 0xDF a (omega arith) (omega arith)) (tail_yes (p % 2 ^ 6) (omega arith)))
      ∙ ap (λ (q : ℕ). Point q (at + 2)) (omega arith)

  module _ (e : is_scalar p ≡ true) where
    character_3 : (d : ℕ) → 0x800 ≤ p → p < 0x10000 → character at (0xE0 + p / 2 ^ 12) (0x80 + p / 2 ^ 6 % 2 ^ 6) (0x80 + p % 2 ^ 6) d ≡ Point p (at + 3)
    character_3 d h k =
        let a = 0xE0 + p / 2 ^ 12 in
        let b = 0x80 + p / 2 ^ 6 % 2 ^ 6 in
        let c = 0x80 + p % 2 ^ 6 in
        rule_3 at a b c d (within_high 0x00 0x7F a (omega arith)) (two_no a b (omega arith))
        (three_yes a b c (omega arith) (omega arith) (tail_yes (p / 2 ^ 6 % 2 ^ 6) (omega arith)) (tail_yes (p % 2 ^ 6) (omega arith)) (λ q. omega arith)
        (λ q. by_scalar p e (λ l. omega arith) (λ l m. omega arith)))
        ∙ ap (λ (q : ℕ). Point q (at + 3)) (omega arith)

    character_4 : 0x10000 ≤ p → character at (0xF0 + p / 2 ^ 18) (0x80 + p / 2 ^ 12 % 2 ^ 6) (0x80 + p / 2 ^ 6 % 2 ^ 6) (0x80 + p % 2 ^ 6) ≡ Point p (at + 4)
    character_4 h =
        let a = 0xF0 + p / 2 ^ 18 in
        let b = 0x80 + p / 2 ^ 12 % 2 ^ 6 in
        let c = 0x80 + p / 2 ^ 6 % 2 ^ 6 in
        let d = 0x80 + p % 2 ^ 6 in
        by_scalar p e (λ l. absurd (no l)) λ l k.
        rule_4 at a b c d (within_high 0x00 0x7F a (omega arith)) (two_no a b (omega arith)) (three_no a b c (omega arith))
        (four_yes a b c d (omega arith) (omega arith) (tail_yes (p / 2 ^ 12 % 2 ^ 6) (omega arith)) (tail_yes (p / 2 ^ 6 % 2 ^ 6) (omega arith))
        (tail_yes (p % 2 ^ 6) (omega arith)) (λ q. omega arith) (λ q. omega arith))
        ∙ ap (λ (q : ℕ). Point q (at + 4)) (point4_back p (omega arith))
      where
        no : p < 0xD800 → ⊥
        no l = omega arith

module _ (s : List ℕ) (at : ℕ) where
  read : (a : ℕ) (r : List ℕ) → drop at s ≡ a ∷ r → char_at s at ≡ character at a (get_or r 0 0) (get_or r 1 0) (get_or r 2 0)
  unfolding char_at
  read a r e =
      let l : length s - at ≡ suc (length r) = sym (length-drop at s) ∙ ap length e in
      left _ _ (lt-leb (length s) at (omega arith)) ∙ rw (rw add-zero at (is 0), is 1, is 2, is 3)
    where
      is : (k : ℕ) → get_or s (at + k) 0 ≡ get_or (a ∷ r) k 0
      is k = sym (get_or-drop at s k 0) ∙ ap (λ (l : List ℕ). get_or l k 0) e

  pub stands_char : (p next : ℕ) → Stands s at p next → char_at s at ≡ Point p next
  stands_char p next w =
      by_size p (λ k. go (utf8_1 p k) (λ e. read _ _ e ∙ character_1 at p _ _ _ k)) (λ h k. go (utf8_2 p _ _ h k refl refl) (λ e. read _ _ e ∙ character_2 at p _ _ h k))
      (λ h k. go (utf8_3 p _ _ _ h k refl refl refl) (λ e. read _ _ e ∙ character_3 at p w.scalar _ h k))
      (λ h. go (utf8_4 p _ _ _ _ h refl refl refl refl) (λ e. read _ _ e ∙ character_4 at p w.scalar h))
    where
      go : {bs : List ℕ} → utf8 p ≡ bs → (drop at s ≡ bs ++ drop next s → char_at s at ≡ Point p (at + length bs)) → char_at s at ≡ Point p next
      go {bs} f g = g (rw f at w.bytes) ∙ ap (λ (n : ℕ). Point p n) (sym (rw f at w.ends))
