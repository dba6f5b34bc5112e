-- The record walk of document 01 ("The walk and its listing") and document 02 (T-05): MS-XLS 2.1.4. A record is an id of two bytes, a length of two bytes, and a body.
-- Assumes nothing.
use Rattle.std.specs.Prelude.{ℕ, zero, suc, ◌+◌, min, Bool, true, ◌&&◌, ◌||◌, List, [], ◌∷◌, eqb, leb, length, drop, replicate, Some, None, Option}
use Rattle.laws.specs.Choice.{pick, within}
use Rattle.binary_office.specs.Fields.{le16_at}
use Rattle.binary_office.specs.declared.BiffRecord.{BiffRecord}
use Rattle.binary_office.specs.declared.Step.{Step}
use Rattle.binary_office.specs.declared.Step.TheVariants as step
use Rattle.binary_office.specs.declared.Walked.{Walked}

-- so many zero bytes, and whether bytes are that
abbrev pub zero_bytes : ℕ → List ℕ
zero_bytes n = replicate n 0

abbrev pub all_zero : List ℕ → Bool
all_zero [] = true
all_zero (b ∷ bs) = eqb b 0 && all_zero bs

-- document 02, T-05: "One spreadsheet program pads a book with up to three zero bytes."
abbrev pub padding_max : ℕ
padding_max = 3

-- "a remainder of one to three bytes, all zero"
abbrev pub is_padding : (remainder : List ℕ) → Bool
is_padding remainder = within 1 padding_max (length remainder) && all_zero remainder

-- the walk ends cleanly at the end of the stream, or where the remainder is padding: the one place that decides it
unfoldable pub ended : List ℕ → ℕ → Bool
ended s at = leb (length s) at || is_padding (drop at s)

-- a header cut short leaves the walk before its length is used; the fault's place is the header's offset
abbrev pub by_length : List ℕ → ℕ → ℕ → Option ℕ → Step
by_length s at id None = step.Fault at
by_length s at id (Some len) = pick (leb (at + 4 + len) (length s)) (step.Record id len) (step.Fault at)

abbrev pub by_id : List ℕ → ℕ → Option ℕ → Step
by_id s at None = step.Fault at
by_id s at (Some id) = by_length s at id (le16_at s (at + 2))

-- what stands at an offset: a record, by its id and length; a fault; the end
unfoldable pub step_at : List ℕ → ℕ → Step
step_at s at = pick (ended s at) step.End (by_id s at (le16_at s at))

-- where the next header stands, behind the record at an offset; where there is none, the offset itself
abbrev pub next_of : ℕ → Step → ℕ
next_of at step.End = at
next_of at (step.Fault p) = at
next_of at (step.Record id len) = at + 4 + len

abbrev pub next_at : List ℕ → ℕ → ℕ
next_at s at = next_of at (step_at s at)

-- the records in order, and how the walk ends
pub record Walk : Type 0 where
  pub records : List BiffRecord
  pub fault : Option ℕ

abbrev pub behind : BiffRecord → Walk → Walk
behind r w = record { records = r ∷ w.records; fault = w.fault }

-- the walk from an offset on; the first argument bounds the number of records
unfoldable pub walk_from : ℕ → List ℕ → ℕ → Walk
walk_from zero s at = record { records = []; fault = Some at }
walk_from (suc f) s at =
    elim (step_at s at) [
      | step.End ↦ record { records = []; fault = None }
      | step.Fault p ↦ record { records = []; fault = Some p }
      | step.Record id len ↦ behind (record { at = at; id = id; len = len }) (walk_from f s (at + 4 + len))
    ]

-- each record takes four bytes at the least, so a stream of n bytes has at most n, and its end is met after them
unfoldable pub walk_at : List ℕ → ℕ → Walk
walk_at s at = walk_from (suc (length s)) s at

abbrev pub walk : List ℕ → Walk
walk s = walk_at s 0

-- where the records end: behind the last of them, or at the start where there is none
abbrev pub end_from : ℕ → List BiffRecord → ℕ
end_from at [] = at
end_from at (r ∷ rs) = end_from (r.at + 4 + r.len) rs

abbrev pub records_end : List ℕ → ℕ
records_end s = end_from 0 (walk s).records

-- what is left behind them: where the walk ends cleanly nothing, or padding; else the record that can't be read and all behind it
abbrev pub remainder : List ℕ → List ℕ
remainder s = drop (records_end s) s

-- what the code tells of a walk: how many records, and how it ends
abbrev pub walked_of : Walk → Walked
walked_of w = record { records = length w.records; fault = w.fault }

-- the seven ids whose bodies are never enciphered: MS-XLS 2.2.10
abbrev pub never_encrypted : ℕ → Bool
never_encrypted id = eqb id 0x0809 || eqb id 0x002F || eqb id 0x00E1 || eqb id 0x0138 || eqb id 0x0194 || eqb id 0x0195 || eqb id 0x0196

-- the clear part of a body: all of it for the seven ids, the smaller of 4 and the body length for BoundSheet8, else nothing
unfoldable pub clear_len : ℕ → ℕ → ℕ
clear_len id len = pick (never_encrypted id) len (pick (eqb id 0x0085) (min 4 len) 0)
