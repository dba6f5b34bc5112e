-- What the functions of the survey answer to each other, in terms of its definitions.
-- Assumes nothing.
use Rattle.std.specs.Prelude.{ℕ, List, ◌++◌, eqb, length, Option, None, Some, Result}
use Rattle.laws.specs.Choice.{pick}
use Rattle.binary_office.specs.declared.BiffRecord.{BiffRecord}
use Rattle.binary_office.specs.Walk.{walk, never_encrypted}
use Rattle.file_params.specs.declared.Refusal.{Refusal}
use Rattle.file_params.specs.Questions.{asked, unless, locked, lock, filepass, other_id, filepass_body}
use Rattle.survey.specs.declared.Book.{Book}
use Rattle.survey.specs.declared.Tally.{Tally}
use Rattle.survey.specs.Survey.{enciphered_bytes, book_of}

-- the first FILEPASS, with one record more
abbrev pub filepass_on : Option BiffRecord → BiffRecord → Option BiffRecord
filepass_on (Some first) r = Some first
filepass_on None r = pick (eqb r.id 0x002F) (Some r) None

-- the first id before FILEPASS that is not one of the seven, with one record more
abbrev pub other_on : Option BiffRecord → Option ℕ → (id : ℕ) → Option ℕ
other_on (Some first) o id = o
other_on None (Some first) id = Some first
other_on None None id = pick (never_encrypted id) None (Some id)

-- what a walk of the whole stream tallies
unfoldable pub tally_of : List ℕ → Tally
tally_of stream =
    let w = walk stream in
    record {
      fault = w.fault;
      records = length w.records;
      enciphered = enciphered_bytes w.records;
      filepass = filepass w.records;
      other = other_id w.records;
    }

-- questions 8 to 26
unfoldable pub locked_by : List ℕ → Result Book Refusal
locked_by stream = unless (book_of stream) (asked (locked (walk stream).records ++ lock (filepass_body stream)))
