-- The code points of a text, character by character. A loop over a text keeps `Passed`: the points so far, followed by those from the offset on,
-- are the points of the text. Each character moves the offset on and not past the end, so the fuel of the definition is always enough.
-- Assumes nothing.
use Rattle.std.proofs.lemmas.Option.{none-some, same_Some}
use Rattle.std.specs.Option.{option_map}
use mathlib.Core.Path.{◌≡◌, refl, sym, ap, ◌∙◌, subst}
use mathlib.Core.List.{List, [], ◌∷◌, ◌++◌, append-nil, append_assoc}
use Prim.Native.Nat.{ℕ, zero, suc, ◌+◌, ◌*◌, ◌≤◌, ◌<◌}
use native.Mathlib.Omega.{arith}
use lib.ListN.{length, drop, length-append, length-drop}
use Rattle.laws.proofs.Results.{made_of}
use Rattle.sensitive.specs.Utf8.{char_at, points_from, points, utf8}
use Rattle.sensitive.specs.Utf16.{utf16les, encoded, length_of}
use Rattle.sensitive.specs.declared.Char.{Char}
use Rattle.sensitive.specs.declared.Char.TheVariants.{Point, Malformed, End}
use Rattle.std.specs.Prelude.{Some, Option, None}
use Rattle.sensitive.proofs.Characters.{char_stands, utf8_some}
use Rattle.sensitive.proofs.Utf16.{utf16les_append, utf16les_add, short}

-- where the next character starts
pub record Moves (s : List ℕ) (at next : ℕ) : Type 0 where
  pub on : at < next
  pub inside : next ≤ length s

pub char_moves : (s : List ℕ) (at p next : ℕ) → char_at s at ≡ Point p next → Moves s at next
char_moves s at p next e =
    let w = char_stands s at p next e in
    let l = sym (length-drop at s) ∙ ap length w.bytes ∙ length-append (utf8 p) (drop next s) ∙ ap (λ (n : ℕ). length (utf8 p) + n) (length-drop next s) in
    let h = utf8_some p in
    let n = w.ends in
    record { on = omega arith; inside = omega arith }

module _ (s : List ℕ) where
  from_end : (f at : ℕ) → char_at s at ≡ End → points_from (suc f) s at ≡ Some []
  unfolding points_from
  from_end f at e = rw (e, points_from)

  from_bad : (f at : ℕ) → char_at s at ≡ Malformed → points_from (suc f) s at ≡ None
  unfolding points_from
  from_bad f at e = rw (e, points_from)

  from_point : (f at p next : ℕ) → char_at s at ≡ Point p next → points_from (suc f) s at ≡ option_map (λ (ps : List ℕ). p ∷ ps) (points_from f s next)
  unfolding points_from
  from_point f at p next e = rw (e, points_from)

  no_fuel : (at : ℕ) → at ≤ length s → length s < 0 + at → ⊥
  no_fuel at h k = omega arith

  -- any fuel that is enough gives the same
  enough : (f g at : ℕ) → at ≤ length s → length s < f + at → length s < g + at → points_from f s at ≡ points_from g s at
  enough zero g at h k l = absurd (no_fuel at h k)
  enough (suc f) zero at h k l = absurd (no_fuel at h l)
  enough (suc f) (suc g) at h k l = go (char_at s at) refl (enough f g)
    where
      go : (w : Char) → char_at s at ≡ w → ((n : ℕ) → n ≤ length s → length s < f + n → length s < g + n → points_from f s n ≡ points_from g s n)
          → points_from (suc f) s at ≡ points_from (suc g) s at
      go End e again = from_end f at e ∙ sym (from_end g at e)
      go Malformed e again = from_bad f at e ∙ sym (from_bad g at e)
      go (Point p next) e again =
          let m = char_moves s at p next e in
          from_point f at p next e
          ∙ ap (option_map (λ (ps : List ℕ). p ∷ ps)) (again next m.inside (omega arith) (omega arith))
          ∙ sym (from_point g at p next e)

  rest : ℕ → Option (List ℕ)
  rest at = points_from (suc (length s)) s at

  rest_point : (at p next : ℕ) → char_at s at ≡ Point p next → rest at ≡ option_map (λ (ps : List ℕ). p ∷ ps) (rest next)
  unfolding rest
  rest_point at p next e =
      let m = char_moves s at p next e in
      from_point (length s) at p next e ∙ ap (option_map (λ (ps : List ℕ). p ∷ ps)) (enough (length s) (suc (length s)) next m.inside (omega arith) (omega arith))

  -- what holds at the end, and before a character where it holds behind it, holds of a well-formed text
  module _ (P : ℕ → List ℕ → Type 0) (at_end : (at : ℕ) → char_at s at ≡ End → P at [])
      (at_point : (at p next : ℕ) (ps : List ℕ) → char_at s at ≡ Point p next → P next ps → P at (p ∷ ps)) where
    from_ind : (f at : ℕ) (ps : List ℕ) → points_from f s at ≡ Some ps → P at ps
    unfolding points_from
    from_ind zero at ps e = absurd (none-some ps e)
    from_ind (suc f) at ps e = go (char_at s at) refl (from_ind f)
      where
        go : (w : Char) → char_at s at ≡ w → ((n : ℕ) (qs : List ℕ) → points_from f s n ≡ Some qs → P n qs) → P at ps
        go End h again = subst (λ (l : List ℕ). P at l) (same_Some [] ps (sym (from_end f at h) ∙ e)) (at_end at h)
        go Malformed h again = absurd (none-some ps (sym (from_bad f at h) ∙ e))
        go (Point p next) h again =
            let q = made_of (λ (l : List ℕ). p ∷ l) (points_from f s next) ps (sym (from_point f at p next h) ∙ e) in
            subst (λ (l : List ℕ). P at l) q.2 (at_point at p next q.0 h (again next q.0 q.1))

    pub points_ind : (ps : List ℕ) → points s ≡ Some ps → P 0 ps
    unfolding points
    points_ind ps e = from_ind (suc (length s)) 0 ps e

-- the characters up to an offset are passed, and these are their code points
pub record Passed (s : List ℕ) (at : ℕ) (ps : List ℕ) : Type 0 where
  pub inside : at ≤ length s
  pub short : length (utf16les ps) ≤ 2 * at
  ahead : points s ≡ option_map (λ (qs : List ℕ). ps ++ qs) (rest s at)

module _ (s : List ℕ) where
  pub passed_none : Passed s 0 []
  unfolding points rest utf16les
  passed_none = record { inside = omega arith; short = omega arith; ahead = sym (option_same (rest s 0)) }
    where
      option_same : (o : Option (List ℕ)) → option_map (λ (qs : List ℕ). qs) o ≡ o
      option_same None = refl
      option_same (Some qs) = refl

  -- a character was read there
  module _ {at : ℕ} {ps : List ℕ} {c : Char} (w : Passed s at ps) (r : c ≡ char_at s at) where
    pub passed_end : c ≡ End → points s ≡ Some ps
    unfolding rest
    passed_end e = w.ahead ∙ ap (option_map (λ (qs : List ℕ). ps ++ qs)) (from_end s (length s) at (sym r ∙ e)) ∙ ap Some (append-nil ps)

    pub passed_bad : c ≡ Malformed → points s ≡ None
    unfolding rest
    passed_bad e = w.ahead ∙ ap (option_map (λ (qs : List ℕ). ps ++ qs)) (from_bad s (length s) at (sym r ∙ e))

    module _ (p next : ℕ) (e : c ≡ Point p next) where
      pub passed_more : Passed s next (ps ++ (p ∷ []))
      passed_more =
          let e = sym r ∙ e in
          let n = (char_stands s at p next e).ends in
          let b = w.short in
          let d = short p in
          record {
            inside = (char_moves s at p next e).inside;
            short = rw (utf16les_add ps p, length-append) (omega arith);
            ahead = w.ahead ∙ ap (option_map (λ (qs : List ℕ). ps ++ qs)) (rest_point s at p next e) ∙ onto (rest s next);
          }
        where
          onto : (o : Option (List ℕ))
              → option_map (λ (qs : List ℕ). ps ++ qs) (option_map (λ (qs : List ℕ). p ∷ qs) o) ≡ option_map (λ (qs : List ℕ). ps ++ (p ∷ []) ++ qs) o
          onto None = refl
          onto (Some qs) = ap Some (sym (append_assoc ps (p ∷ []) qs))

  module _ {at : ℕ} {ps : List ℕ} (w : Passed s at ps) where
    -- the text is not well formed, or its points start with these
    pub passed_all : {X : Type 0} → (points s ≡ None → X) → ((qs : List ℕ) → points s ≡ Some (ps ++ qs) → X) → X
    passed_all {X} f g = go (rest s at) w.ahead
      where
        go : (o : Option (List ℕ)) → points s ≡ option_map (λ (qs : List ℕ). ps ++ qs) o → X
        go None e = f e
        go (Some qs) e = g qs e

    -- the bytes of the characters passed are no more than those of the text
    pub passed_room : (n : ℕ) → length_of (encoded s) ≡ Some n → length (utf16les ps) ≤ n
    passed_room n e =
        passed_all (λ f. let g = rw f at e in cc) λ qs f.
        let g = rw f at e in
        let l : length (utf16les (ps ++ qs)) ≡ n = cc in
        omega (arith, rw (utf16les_append ps qs, length-append) at l)
