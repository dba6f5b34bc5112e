-- UTF-16 with the lower byte first: RFC 2781 sections 2.1 and 3.1, as MS-OFFCRYPTO 2.3.5.2 and 2.3.6.2 take a password.
-- Assumes nothing.
use Rattle.std.specs.Option.{option_map}
use Rattle.std.specs.Prelude.{ℕ, ◌+◌, ◌-◌, ◌/◌, ◌%◌, ◌^◌, List, [], ◌∷◌, ◌++◌, ltb, leb, length, drop, replicate, Option as Answer, Some, None, Result, Ok, Err, Option}
use Rattle.laws.specs.Choice.{pick}
use Rattle.sensitive.specs.Utf8.{points}
use Rattle.sensitive.specs.declared.Units.{Units}
use Rattle.sensitive.specs.declared.EncodeError.{EncodeError}
use Rattle.sensitive.specs.declared.EncodeError.TheVariants.{Malformed, Short}

-- a unit of 16 bits, the lower byte first
abbrev pub unit : ℕ → List ℕ
unit u = u % 256 ∷ u / 256 % 256 ∷ []

-- a code point: one unit below 10000, else a high surrogate with the upper ten bits above 10000 and a low one with the lower ten
unfoldable pub utf16le : ℕ → List ℕ
unfolding pick
utf16le p = pick (ltb p 0x10000) (unit p) (unit (0xD800 + (p - 0x10000) / 2 ^ 10) ++ unit (0xDC00 + (p - 0x10000) % 2 ^ 10))

unfoldable pub utf16les : List ℕ → List ℕ
unfolding utf16le
utf16les [] = []
utf16les (p ∷ ps) = utf16le p ++ utf16les ps

-- the password's bytes in UTF-16LE, or none where the text is not well formed
abbrev pub encoded : List ℕ → Option (List ℕ)
encoded s = option_map utf16les (points s)

-- what the functions answer: a code point's bytes, with zeros behind them up to four
unfoldable pub units : ℕ → Units
unfolding utf16le
units p = record { bytes = utf16le p ++ replicate (4 - length (utf16le p)) 0; len = length (utf16le p) }

-- the length of a text's encoding, or none
abbrev pub length_of : Option (List ℕ) → Answer ℕ
length_of None = None
length_of (Some bs) = Some (length bs)

-- the answer and the buffer at the end, for an encoding that is written to the start of a buffer that has room for it
pub record Outcome : Type 0 where
  pub answer : Result ℕ EncodeError
  pub out : List ℕ

unfoldable pub into : Option (List ℕ) → List ℕ → Outcome
unfolding pick
into None out = record { answer = Err Malformed; out = out }
into (Some bs) out =
    pick (leb (length bs) (length out))
    (record { answer = Ok (length bs); out = bs ++ drop (length bs) out })
    (record { answer = Err (Short (length bs)); out = out })
