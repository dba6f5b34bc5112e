-- The iterator over a text's characters, in a loop: the characters that it has given are passed, and at its end they are all.
-- Assumes nothing.
use mathlib.Core.Path.{◌≡◌, refl, ◌∙◌}
use mathlib.Core.List.{List, [], ◌∷◌, ◌++◌}
use Prim.Native.Nat.{ℕ, ◌+◌, ◌≤◌, ◌<◌}
use lib.ListN.{length}
use Rattle.std.specs.Prelude.{Option, Some, None, Result, Ok, Err}
use Rattle.std.specs.Result.{result_ok}
use Rattle.laws.proofs.Choice.{either}
use Rattle.sensitive.specs.Utf8.{char_at, points}
use Rattle.sensitive.specs.Utf16.{utf16les, units, encoded, length_of}
use Rattle.sensitive.specs.Chars.{Steps}
use Rattle.sensitive.specs.declared.Char.TheVariants.{Malformed as No-char}
use Rattle.sensitive.specs.declared.Chars.{Chars}
use Rattle.sensitive.specs.declared.Malformed.{Malformed}
use Rattle.sensitive.specs.declared.Units.{Units}
use Rattle.sensitive.proofs.Characters.{end_char}
use Rattle.sensitive.proofs.Texts.{Passed, passed_none, passed_more, passed_end, passed_bad, passed_room}
use Rattle.sensitive.proofs.Utf16.{spells, count_more}

-- bytes that start no character stand before the end
pub bad_inside : (s : List ℕ) (at : ℕ) → char_at s at ≡ No-char → at < length s
bad_inside s at e = either (length s) at (λ h. let f = end_char s at h in cc) (λ h. h)

-- the two items
pub from_ok : (r : Result ℕ Malformed) (p : ℕ) → Some p ≡ result_ok r → r ≡ Ok p
from_ok (Ok q) p e = cc
from_ok (Err x) p e = cc

-- the characters that the iterator has given
pub record Given (s : List ℕ) (it : Chars) (ps : List ℕ) : Type 0 where
  pub text : it.text.now ≡ s
  pub passed : Passed s it.at ps

module _ {s : List ℕ} {it : Chars} where
  pub given_none : it.text.now ≡ s → it.at ≡ 0 → Given s it []
  given_none e f = record { text = e; passed = rw f (passed_none s) }

  module _ {ps : List ℕ} {item : Option (Result ℕ Malformed)} (w : Given s it ps) where
    pub given_more : {new : Chars} (p : ℕ) → Steps it item new → item ≡ Some (Ok p) → Given s new (ps ++ (p ∷ []))
    given_more {new} p h e =
        let f = rw (e, w.text) at h.gives in
        record { text = h.same_text ∙ w.text; passed = passed_more s w.passed refl p new.at f }

    module _ {new : Chars} (h : Steps it item new) where
      pub given_all : item ≡ None → points s ≡ Some ps
      given_all e =
          let f = rw (e, w.text) at h.gives in
          passed_end s w.passed refl f.0

      pub given_bad : (r : Result ℕ Malformed) → item ≡ Some r → None ≡ result_ok r → points s ≡ None
      given_bad (Ok p) e f = cc
      given_bad (Err x) e f =
          let g = rw (e, w.text) at h.gives in
          passed_bad s w.passed refl g.0

-- and their encoding takes n bytes
pub record Encodes (s : List ℕ) (it : Chars) (n : ℕ) : Type 0 where
  pub ps : List ℕ
  pub given : Given s it ps
  pub count : n ≡ length (utf16les ps)

pub no_bytes : 0 ≡ length (utf16les [])
unfolding utf16les
no_bytes = refl

module _ {s : List ℕ} {it : Chars} where
  abbrev pub encodes_none : {made : Chars} → it ≡ made → made.text.now ≡ s → made.at ≡ 0 → Encodes s it 0
  encodes_none e f g = record { ps = []; given = rw e (given_none f g); count = no_bytes }

  module _ {n : ℕ} (w : Encodes s it n) where
    abbrev pub encodes_more : {item : Option (Result ℕ Malformed)} {new : Chars} {p : ℕ} {u : Units}
        → Steps it item new → item ≡ Some (Ok p) → u ≡ units p → Encodes s new (n + u.len)
    encodes_more {p = p} h e f = record { ps = w.ps ++ (p ∷ []); given = given_more w.given p h e; count = count_more w.ps w.count (spells _ p f) }

  -- no more than the bytes of the whole text
  encodes_room : {n : ℕ} → Encodes s it n → (size : ℕ) → length_of (encoded s) ≡ Some size → n ≤ size
  encodes_room w size e = rw w.count (passed_room s w.given.passed size e)

-- so the next character has room
pub encodes_fits : {s : List ℕ} {it new : Chars} {n p : ℕ} {u : Units} {item : Option (Result ℕ Malformed)} (w : Encodes s it n) (size : ℕ)
    → Steps it item new → item ≡ Some (Ok p) → u ≡ units p → length_of (encoded s) ≡ Some size → n + u.len ≤ size
encodes_fits w size h e f r = encodes_room (encodes_more w h e f) size r
