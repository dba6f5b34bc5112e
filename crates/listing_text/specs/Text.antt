-- The listing's text (document 01, "The walk and its listing"), as ASCII: a header, a line for each record, a line for a fault.
-- Assumes nothing.
use Rattle.std.specs.Prelude.{◌≡◌, ℕ, zero, suc, ◌+◌, ◌/◌, ◌%◌, List, [], ◌∷◌, ◌++◌, leb, ltb, length, Some, None, Option}
use Rattle.std.proofs.lemmas.List.Edits.{sets}
use Rattle.laws.specs.Choice.{pick}
use Rattle.binary_office.specs.declared.BiffRecord.{BiffRecord}
use Rattle.binary_office.specs.Walk.{Walk, walk, clear_len}

-- a number in decimal digits; the first argument bounds their number, and n has at most n + 1
unfoldable pub digits : ℕ → ℕ → List ℕ
digits zero n = []
digits (suc f) n = pick (ltb n 10) ((48 + n) ∷ []) (digits f (n / 10) ++ ((48 + n % 10) ∷ []))

unfoldable pub decimal : ℕ → List ℕ
decimal n = digits (suc n) n

-- the digit of a place, if the number reaches it: what a number below 100000 is written by
abbrev pub placed : ℕ → ℕ → List ℕ
placed n unit = pick (leb unit n) ((48 + n / unit % 10) ∷ []) []

-- a hexadecimal digit in lower case, and the four of an id
abbrev pub hex_digit : ℕ → ℕ
hex_digit n = pick (ltb n 10) (48 + n) (87 + n)

unfoldable pub hex4 : ℕ → List ℕ
hex4 n = hex_digit (n / 4096 % 16) ∷ hex_digit (n / 256 % 16) ∷ hex_digit (n / 16 % 16) ∷ hex_digit (n % 16) ∷ []

-- offset, id, length and clear bytes, separated by tabs
unfoldable pub line : BiffRecord → List ℕ
line r = decimal r.at ++ (9 ∷ []) ++ hex4 r.id ++ (9 ∷ []) ++ decimal r.len ++ (9 ∷ []) ++ decimal (clear_len r.id r.len) ++ (10 ∷ [])

unfoldable pub lines : List BiffRecord → List ℕ
lines [] = []
lines (r ∷ rs) = line r ++ lines rs

-- "at", "id", "length", "clear"
abbrev pub header : List ℕ
header = 97 ∷ 116 ∷ 9 ∷ 105 ∷ 100 ∷ 9 ∷ 108 ∷ 101 ∷ 110 ∷ 103 ∷ 116 ∷ 104 ∷ 9 ∷ 99 ∷ 108 ∷ 101 ∷ 97 ∷ 114 ∷ 10 ∷ []

-- "unreadable" and the fault's offset
abbrev pub unreadable : List ℕ
unreadable = 117 ∷ 110 ∷ 114 ∷ 101 ∷ 97 ∷ 100 ∷ 97 ∷ 98 ∷ 108 ∷ 101 ∷ 9 ∷ []

abbrev pub ending : (Option ℕ) → List ℕ
ending None = []
ending (Some p) = unreadable ++ decimal p ++ (10 ∷ [])

abbrev pub of_walk : Walk → List ℕ
of_walk w = lines w.records ++ ending w.fault

-- "too long"
abbrev pub too_long : List ℕ
too_long = 116 ∷ 111 ∷ 111 ∷ 32 ∷ 108 ∷ 111 ∷ 110 ∷ 103 ∷ 10 ∷ []

-- above 32,768 bytes it prints only "too long"
unfoldable pub text : List ℕ → List ℕ
text s = pick (leb (length s) 32768) (header ++ of_walk (walk s)) too_long

-- what writing bytes at an offset of a buffer answers and leaves: the offset behind them, and as many of them as there is room for
pub record Puts (bytes : List ℕ) (n : ℕ) (d : List ℕ) (r : ℕ) (d' : List ℕ) : Type 0 where
  pub behind : r ≡ n + length bytes
  pub written : d' ≡ sets d n bytes
