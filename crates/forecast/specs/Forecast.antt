-- T-04 of document 02, "What opening will take": output bytes, records, enciphered body bytes and block keys, from a stream alone; or the refusal of
-- questions 4 and 6 to 26.
-- Assumes nothing.
use Rattle.std.specs.Prelude.{ℕ, List, length, Result}
use Rattle.binary_office.specs.Walk.{walk}
use Rattle.file_params.specs.declared.Refusal.{Refusal}
use Rattle.file_params.specs.Questions.{asked, unless, filepass_body}
use Rattle.survey.specs.Survey.{enciphered_bytes, block_keys, alone}
use Rattle.forecast.specs.declared.Counts.{Counts}

-- "From a stream alone, without a password, give: output bytes, records, enciphered body bytes (body lengths less clear parts, summed), and block keys derived."
unfoldable pub counts_of : (stream : List ℕ) → Counts
counts_of stream =
    let records = (walk stream).records in
    record {
      output_bytes = length stream;
      records = length records;
      enciphered_body_bytes = enciphered_bytes records;
      block_keys = block_keys (filepass_body stream) (length stream);
    }

-- "Streams refused by questions 4 and 6 to 26 are refused likewise; the other questions don't arise."
unfoldable pub forecast : (stream : List ℕ) → Result Counts Refusal
forecast stream = unless (counts_of stream) (asked (alone stream))
