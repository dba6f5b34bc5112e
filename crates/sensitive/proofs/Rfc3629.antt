-- The decoder and RFC 3629's table: what the table encodes is well formed and decodes to the same code points, and nothing else is well formed,
-- so that no overlong form, no surrogate and nothing above 10FFFF is let through. The bytes of a text are not bounded here, since every rule bounds them.
-- Assumes nothing.
use Rattle.std.specs.Prelude.{None, Some}
use mathlib.Core.Path.{◌≡◌, refl, sym, ap, ◌∙◌}
use mathlib.Core.Bool.{Bool, true, ◌&&◌, and-eq-true_iff}
use mathlib.Core.List.{List, [], ◌∷◌, ◌++◌, append-nil}
use Prim.Native.Nat.{ℕ, ◌+◌}
use native.Mathlib.Omega.{arith}
use lib.ListN.{length, drop, length-drop, drop_of_length-le}
use lib.Seq.{append_snoc, drop-append_seam, drop-drop}
use Rattle.sensitive.specs.Utf8.{three, four, char_at, points, is_scalar, utf8, utf8s}
use Rattle.sensitive.proofs.Characters.{char_stands, stands_char, end_char, char_end}
use Rattle.sensitive.proofs.Texts.{Passed, passed_none, passed_more, passed_end, points_ind}

-- every code point is one that UTF-8 encodes
abbrev pub scalars : List ℕ → Bool
scalars [] = true
scalars (p ∷ ps) = is_scalar p && scalars ps

decodes : (s : List ℕ) (ps : List ℕ) {at : ℕ} {qs : List ℕ} → Passed s at qs → drop at s ≡ utf8s ps → scalars ps ≡ true → points s ≡ Some (qs ++ ps)
unfolding utf8s
decodes s [] {at} {qs} w e h =
    let l = sym (length-drop at s) ∙ ap length e in
    passed_end s w refl (end_char s at (omega arith)) ∙ ap Some (sym (append-nil qs))
decodes s (p ∷ ps) {at} {qs} w e h =
    let b = (and-eq-true_iff (is_scalar p) (scalars ps)).0 h in
    let d : drop (at + length (utf8 p)) s ≡ utf8s ps = sym (drop-drop (length (utf8 p)) at s) ∙ ap (drop (length (utf8 p))) e ∙ drop-append_seam (utf8 p) (utf8s ps) in
    let c = stands_char s at p (at + length (utf8 p)) (record { scalar = b.0; ends = refl; bytes = rw d e }) in
    decodes s ps (passed_more s w refl p (at + length (utf8 p)) c) d b.1 ∙ ap Some (append_snoc qs p ps)

-- what the table encodes is well formed, and decodes to it
pub points_utf8s : (ps : List ℕ) → scalars ps ≡ true → points (utf8s ps) ≡ Some ps
points_utf8s ps h = decodes (utf8s ps) ps (passed_none (utf8s ps)) refl h

-- and nothing else is
pub utf8s_points : (s ps : List ℕ) → points s ≡ Some ps → (utf8s ps ≡ s) × (scalars ps ≡ true)
unfolding utf8s
utf8s_points s ps e =
    points_ind s (λ (at : ℕ) (ps : List ℕ). (utf8s ps ≡ drop at s) × (scalars ps ≡ true))
    (λ at e. (sym (drop_of_length-le s (char_end s at e)), refl))
    (λ at p next ps e b.
    let w = char_stands s at p next e in
    (rw b.0 (sym w.bytes), rw w.scalar b.1))
    ps
    e

-- section 7's examples
mixed : points (0x41 ∷ 0xE2 ∷ 0x89 ∷ 0xA2 ∷ 0xCE ∷ 0x91 ∷ 0x2E ∷ []) ≡ Some (0x41 ∷ 0x2262 ∷ 0x391 ∷ 0x2E ∷ [])
unfolding points char_at three four
mixed = refl

korean : points (0xED ∷ 0x95 ∷ 0x9C ∷ 0xEA ∷ 0xB5 ∷ 0xAD ∷ 0xEC ∷ 0x96 ∷ 0xB4 ∷ []) ≡ Some (0xD55C ∷ 0xAD6D ∷ 0xC5B4 ∷ [])
unfolding points char_at three four
korean = refl

marked : points (0xEF ∷ 0xBB ∷ 0xBF ∷ 0xF0 ∷ 0xA3 ∷ 0x8E ∷ 0xB4 ∷ []) ≡ Some (0xFEFF ∷ 0x233B4 ∷ [])
unfolding points char_at three four
marked = refl

-- what sections 3 and 10 warn of: overlong forms and a surrogate pair
overlong : points (0xC0 ∷ 0x80 ∷ []) ≡ None
unfolding points char_at three four
overlong = refl

dots : points (0x2F ∷ 0xC0 ∷ 0xAE ∷ 0x2E ∷ 0x2F ∷ []) ≡ None
unfolding points char_at three four
dots = refl

pair : points (0xED ∷ 0xA1 ∷ 0x8C ∷ 0xED ∷ 0xBE ∷ 0xB4 ∷ []) ≡ None
unfolding points char_at three four
pair = refl
