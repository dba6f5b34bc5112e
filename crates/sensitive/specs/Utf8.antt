-- UTF-8 as RFC 3629 has it: the syntax of its section 4 and the code points of its section 3, the encoding of a code point, and a text as
-- the list of its code points.
-- Assumes nothing.
use Rattle.std.specs.Option.{option_map}
use Rattle.std.specs.Prelude.{ℕ, zero, suc, ◌+◌, ◌*◌, ◌/◌, ◌%◌, ◌^◌, Bool, true, false, ◌&&◌, ◌||◌, List, [], ◌∷◌, ◌++◌, eqb, leb, ltb, length, get_or, Option, None, Some}
use Rattle.laws.specs.Choice.{pick, within}
use Rattle.sensitive.specs.declared.Char.{Char}
use Rattle.sensitive.specs.declared.Char.TheVariants.{Point, Malformed, End}

-- section 4, on the bytes from the first on; a byte past the end of a text counts as 0, which no rule but UTF8-1 takes
abbrev pub tail : ℕ → Bool
tail b = within 0x80 0xBF b

abbrev pub one : ℕ → Bool
one a = within 0x00 0x7F a

abbrev pub two : ℕ → ℕ → Bool
two a b = within 0xC2 0xDF a && tail b

unfoldable pub three : ℕ → ℕ → ℕ → Bool
three a b c =
    ((eqb a 0xE0 && within 0xA0 0xBF b)
    || (within 0xE1 0xEC a && tail b)
    || (eqb a 0xED && within 0x80 0x9F b)
    || (within 0xEE 0xEF a && tail b))
    && tail c

unfoldable pub four : ℕ → ℕ → ℕ → ℕ → Bool
four a b c d =
    ((eqb a 0xF0 && within 0x90 0xBF b)
    || (within 0xF1 0xF3 a && tail b)
    || (eqb a 0xF4 && within 0x80 0x8F b))
    && tail c
    && tail d

-- section 3: the bits of the code point, by the number of bytes
abbrev pub point2 : ℕ → ℕ → ℕ
point2 a b = a % 2 ^ 5 * 2 ^ 6 + b % 2 ^ 6

abbrev pub point3 : ℕ → ℕ → ℕ → ℕ
point3 a b c = a % 2 ^ 4 * 2 ^ 12 + b % 2 ^ 6 * 2 ^ 6 + c % 2 ^ 6

abbrev pub point4 : ℕ → ℕ → ℕ → ℕ → ℕ
point4 a b c d = a % 2 ^ 3 * 2 ^ 18 + b % 2 ^ 6 * 2 ^ 12 + c % 2 ^ 6 * 2 ^ 6 + d % 2 ^ 6

-- the character that starts with the bytes a, b, c, d, the first of which is at `at`: its code point and where the next one starts
unfoldable pub character : ℕ → ℕ → ℕ → ℕ → ℕ → Char
unfolding pick
character at a b c d =
    pick (one a) (Point a (at + 1))
    (pick (two a b) (Point (point2 a b) (at + 2))
    (pick (three a b c) (Point (point3 a b c) (at + 3))
    (pick (four a b c d) (Point (point4 a b c d) (at + 4))
    Malformed)))

-- what stands at an offset of a text
unfoldable pub char_at : List ℕ → ℕ → Char
unfolding pick character
char_at s at = pick (leb (length s) at) End (character at (get_or s at 0) (get_or s (at + 1) 0) (get_or s (at + 2) 0) (get_or s (at + 3) 0))

-- the code points of a text from an offset on, or none where what is left is not well formed; the first argument bounds their number
unfoldable pub points_from : ℕ → List ℕ → ℕ → Option (List ℕ)
points_from zero s at = None
points_from (suc f) s at =
    elim (char_at s at) [
      | End ↦ Some []
      | Malformed ↦ None
      | Point p next ↦ option_map (λ (ps : List ℕ). p ∷ ps) (points_from f s next)
    ]

-- the code points of a text: a text of n bytes has at most n, and its end is met after them
unfoldable pub points : List ℕ → Option (List ℕ)
unfolding points_from
points s = points_from (suc (length s)) s 0

-- a character number that UTF-8 encodes: up to 10FFFF, and not between D800 and DFFF (section 3)
abbrev pub is_scalar : ℕ → Bool
is_scalar p = ltb p 0xD800 || within 0xE000 0x10FFFF p

-- section 3's table: the bytes of a code point
unfoldable pub utf8 : ℕ → List ℕ
unfolding pick
utf8 p =
    pick (ltb p 0x80) (p ∷ [])
    (pick (ltb p 0x800) ((0xC0 + p / 2 ^ 6) ∷ (0x80 + p % 2 ^ 6) ∷ [])
    (pick (ltb p 0x10000) ((0xE0 + p / 2 ^ 12) ∷ (0x80 + p / 2 ^ 6 % 2 ^ 6) ∷ (0x80 + p % 2 ^ 6) ∷ [])
    ((0xF0 + p / 2 ^ 18) ∷ (0x80 + p / 2 ^ 12 % 2 ^ 6) ∷ (0x80 + p / 2 ^ 6 % 2 ^ 6) ∷ (0x80 + p % 2 ^ 6) ∷ [])))

-- the bytes of a text of code points
unfoldable pub utf8s : List ℕ → List ℕ
unfolding utf8
utf8s [] = []
utf8s (p ∷ ps) = utf8 p ++ utf8s ps

-- a text is well formed where it has code points
unfoldable pub well_formed : List ℕ → Bool
unfolding points
well_formed s = elim (points s) [ None ↦ false | Some ps ↦ true ]
