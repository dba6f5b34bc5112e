-- What a stream alone decides: questions 4 and 6 to 26 of document 01, the lock that they find, and the counts of what opening will take (document 02, T-04:
-- "From a stream alone, without a password").
-- Assumes nothing.
use Rattle.std.specs.Prelude.{ℕ, ◌+◌, ◌-◌, List, [], ◌∷◌, eqb, length, Result}
use Rattle.std.specs.Option.{unwrap_or}
use Rattle.laws.specs.Choice.{pick}
use Rattle.binary_office.specs.declared.BiffRecord.{BiffRecord}
use Rattle.binary_office.specs.Walk.{Walk, walk, clear_len}
use Rattle.file_params.specs.declared.Refusal.{Refusal}
use Rattle.file_params.specs.Questions.{Question, asked, unless, stream_fits, of_stream, filepass, filepass_body, type_of, structure_of}
use Rattle.block_keys.specs.BlockKeys.{started_blocks}
use Rattle.block_keys.specs.Lock.{lock_of}
use Rattle.survey.specs.declared.Counts.{Counts}
use Rattle.survey.specs.declared.Scheme.{Scheme}
use Rattle.survey.specs.declared.Scheme.TheVariants as scheme
use Rattle.survey.specs.declared.Book.{Book}

-- "enciphered body bytes (body lengths less clear parts, summed)"
abbrev pub enciphered_len : (id len : ℕ) → ℕ
enciphered_len id len = len - clear_len id len

unfoldable pub enciphered_bytes : List BiffRecord → ℕ
enciphered_bytes [] = 0
enciphered_bytes (r ∷ rs) = enciphered_len r.id r.len + enciphered_bytes rs

-- what a walk counts
abbrev pub counts_of : Walk → Counts
counts_of w = record { fault = w.fault; records = length w.records; enciphered = enciphered_bytes w.records }

-- "Keys are 0 under XOR; under RC4 they are one for the check and one for each started 1,024 bytes."
unfoldable pub block_keys : (body : List ℕ) → (bytes : ℕ) → ℕ
block_keys body bytes = pick (eqb (type_of body) 0) 0 (1 + started_blocks 1024 bytes)

-- the lock of a FILEPASS body
unfoldable pub scheme_by : (body : List ℕ) → Scheme
scheme_by body = pick (eqb (type_of body) 0) scheme.Xor (scheme.Rc4 (lock_of (structure_of body)))

unfoldable pub book_of : (stream : List ℕ) → Book
book_of stream =
    let records = (walk stream).records in
    record {
      records = length records;
      enciphered = enciphered_bytes records;
      filepass = unwrap_or (filepass records) (record { at = 0; id = 0; len = 0 });
      scheme = scheme_by (filepass_body stream);
    }

-- "Streams refused by questions 4 and 6 to 26 are refused likewise; the other questions don't arise."
unfoldable pub alone : (stream : List ℕ) → List Question
alone stream =
    stream_fits (length stream)  -- 4
    ∷ of_stream stream  -- 6 to 26

unfoldable pub surveyed : (stream : List ℕ) → Result Book Refusal
surveyed stream = unless (book_of stream) (asked (alone stream))
