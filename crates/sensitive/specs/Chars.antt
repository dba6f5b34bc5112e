-- What a step of the iterator over a text's characters gives, and where it moves.
-- Assumes nothing.
use Rattle.std.specs.Prelude.{◌≡◌, ℕ, List, length, Option, Some, None, Result, Ok, Err}
use Rattle.sensitive.specs.Utf8.{char_at}
use Rattle.sensitive.specs.declared.Char.TheVariants.{Point, Malformed as No-char, End}
use Rattle.sensitive.specs.declared.Chars.{Chars}
use Rattle.sensitive.specs.declared.Malformed.{Malformed}

-- the code point of the character at the offset, and it moves behind it; that none stands there, and it moves to the end; or nothing at the end
abbrev pub Gives : List ℕ → ℕ → Option (Result ℕ Malformed) → ℕ → Type 0
Gives s at (Some (Ok p)) next = char_at s at ≡ Point p next
Gives s at (Some (Err e)) next = (char_at s at ≡ No-char) × (next ≡ length s)
Gives s at None next = (char_at s at ≡ End) × (next ≡ at)

pub record Steps (it : Chars) (item : Option (Result ℕ Malformed)) (new : Chars) : Type 0 where
  pub same_text : new.text.now ≡ it.text.now
  pub gives : Gives it.text.now it.at item new.at
