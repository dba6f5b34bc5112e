-- UTF-16LE of a code point: one unit or two, and never more than twice as many bytes as in UTF-8; and of a text, character by character.
-- Assumes nothing.
use mathlib.Core.Path.{◌≡◌, refl, sym, ap, ◌∙◌}
use mathlib.Core.List.{List, [], ◌∷◌, ◌++◌, append-nil, append_assoc}
use Prim.Native.Nat.{ℕ, ◌+◌, ◌-◌, ◌*◌, ◌/◌, ◌%◌, ◌^◌, ◌≤◌, ◌<◌}
use native.Mathlib.Omega.{arith}
use lib.ListN.{length, take, drop, length-append, length-drop}
use lib.Seq.{take_at}
use borrow.Rule.Slice.PartMut.{put_mid}
use Rattle.std.proofs.Common.{length-take}
use Rattle.std.proofs.lemmas.Slice.{take-put_mid}
use borrow.Author.Tests.{lt-ltb, le-ltb}
use Rattle.laws.proofs.Choice.{taken, left, either}
use Rattle.sensitive.specs.Utf8.{utf8}
use Rattle.sensitive.specs.Utf16.{unit, utf16le, utf16les, units}
use Rattle.sensitive.specs.declared.Units.{Units}
use Rattle.sensitive.proofs.Characters.{by_size, utf8_1, utf8_2, utf8_3, utf8_4}

pub one_unit : (p : ℕ) → p < 0x10000 → utf16le p ≡ unit p
unfolding utf16le
one_unit p h = taken _ _ (lt-ltb p 0x10000 h)

pub two_units : (p : ℕ) → 0x10000 ≤ p → utf16le p ≡ unit (0xD800 + (p - 0x10000) / 2 ^ 10) ++ unit (0xDC00 + (p - 0x10000) % 2 ^ 10)
unfolding utf16le
two_units p h = left _ _ (le-ltb p 0x10000 h)

pub units_1 : (p : ℕ) → p < 0x10000 → units p ≡ record { bytes = unit p ++ 0 ∷ 0 ∷ []; len = 2 }
unfolding units
units_1 p h = rw (one_unit p h)

pub units_2 : (p : ℕ) → 0x10000 ≤ p
    → units p ≡ record { bytes = unit (0xD800 + (p - 0x10000) / 2 ^ 10) ++ unit (0xDC00 + (p - 0x10000) % 2 ^ 10); len = 4 }
unfolding units
units_2 p h = rw (two_units p h)

pub short : (p : ℕ) → length (utf16le p) ≤ 2 * length (utf8 p)
short p =
    by_size p (λ k. rw (one_unit p (omega arith), utf8_1 p k) (omega arith)) (λ h k. rw (one_unit p (omega arith), utf8_2 p _ _ h k refl refl) (omega arith))
    (λ h k. rw (one_unit p k, utf8_3 p _ _ _ h k refl refl refl) (omega arith)) (λ h. rw (two_units p h, utf8_4 p _ _ _ _ h refl refl refl refl) (omega arith))

pub utf16les_append : (ps qs : List ℕ) → utf16les (ps ++ qs) ≡ utf16les ps ++ utf16les qs
unfolding utf16les
utf16les_append [] qs = refl
utf16les_append (p ∷ ps) qs = rw (utf16les_append ps qs, append_assoc (utf16le p) (utf16les ps) (utf16les qs))

-- a text with one character more
pub utf16les_add : (ps : List ℕ) (p : ℕ) → utf16les (ps ++ (p ∷ [])) ≡ utf16les ps ++ utf16le p
unfolding utf16les
utf16les_add ps p = utf16les_append ps (p ∷ []) ∙ ap (λ (l : List ℕ). utf16les ps ++ l) (append-nil (utf16le p))

-- what the code of a code point holds: its bytes, and how many
pub record Spells (u : Units) (p : ℕ) : Type 0 where
  pub len : u.len ≡ length (utf16le p)
  pub small : u.len ≤ 4
  pub bytes : take u.len u.bytes ≡ utf16le p
  pub whole : u.len ≤ length u.bytes

pub spells : (u : Units) (p : ℕ) → u ≡ units p → Spells u p
unfolding units
spells u p e =
    rw e
    (record {
      len = refl;
      small = either 0x10000 p (λ h. rw (two_units p h) (omega arith)) (λ h. rw (one_unit p h) (omega arith));
      bytes = take_at (utf16le p) _ _ refl;
      whole = rw length-append (omega arith);
    })

-- how many bytes a text takes, with one character more
pub count_more : (ps : List ℕ) {n p : ℕ} {u : Units} → n ≡ length (utf16les ps) → Spells u p → n + u.len ≡ length (utf16les (ps ++ (p ∷ [])))
count_more ps {p = p} e w = let l = w.len in rw (utf16les_add ps p, length-append) (omega arith)

-- the bytes of one character more have as much room as they take, and are put behind those at the start of out
module _ (out : List ℕ) (n : ℕ) (u : Units) {p : ℕ} (w : Spells u p) (h : n + u.len ≤ length out) where
  pub put_room : length (take (n + u.len - n) (drop n out)) ≡ length (take u.len u.bytes)
  put_room = let l = w.whole in simp (length-take, length-drop) (omega arith)

  pub put_more : (ps part : List ℕ) (k : ℕ) → take n out ≡ utf16les ps → part ≡ take u.len u.bytes → take (n + u.len) (put_mid n k out part) ≡ utf16les (ps ++ (p ∷ []))
  put_more ps part k e f =
      take-put_mid n k out part (n + u.len) (rw (f, w.bytes, ← w.len)) (omega arith) ∙ rw (e, f, w.bytes) (sym (utf16les_add ps p))

-- RFC 2781 section 5's example
ra : utf16les (0x12345 ∷ 0x3D ∷ 0x52 ∷ 0x61 ∷ []) ≡ 0x08 ∷ 0xD8 ∷ 0x45 ∷ 0xDF ∷ 0x3D ∷ 0x00 ∷ 0x52 ∷ 0x00 ∷ 0x61 ∷ 0x00 ∷ []
unfolding utf16les
ra = refl
