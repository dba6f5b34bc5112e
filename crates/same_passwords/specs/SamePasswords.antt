-- Two books with the same lock take the same passwords (document 02, T-08: "Bench software offers the last password again for a book with the same lock"). Same
-- lock reads the first 1,048,576 bytes of each stream and no more, so this is stated of two streams of which the FILEPASS body of at least one ends within them.
-- Of others it can be false: the locks of two CryptoAPI books are the same where their bodies are cut there behind the same salt and before the verifier, whatever
-- the verifiers are. `host/tests/same_lock.rs` has such a pair.
-- Assumes nothing.
use Rattle.std.specs.Prelude.{◌≡◌, ℕ, ◌+◌, ◌≤◌, true, List, ◌⊎◌, None, Some, Ok, Err, Result}
use Rattle.binary_office.specs.declared.BiffRecord.{BiffRecord}
use Rattle.binary_office.specs.Walk.{walk}
use Rattle.binary_office.specs.SameLock.{same_lock}
use Rattle.file_params.specs.declared.Refusal.{Refusal}
use Rattle.file_params.specs.Refusal.{number}
use Rattle.file_params.specs.Questions.{asked, of_stream, filepass, filepass_body}
use Rattle.excel97.specs.declared.Report.{Report}
use Rattle.excel97.specs.Open.{passes, Opens}

-- the body of the first FILEPASS ends within the first 1,048,576 bytes
pub record EndsWithin (stream : List ℕ) : Type 0 where
  pub first : BiffRecord
  pub found : filepass (walk stream).records ≡ Some first
  pub ends : first.at + 4 + first.len ≤ 1048576

-- of two streams that questions 6 to 26 let through
abbrev pub OfStreams : Type 0
OfStreams =
    (s t : List ℕ) → same_lock s t ≡ true → EndsWithin s ⊎ EndsWithin t → asked (of_stream s) ≡ None → asked (of_stream t) ≡ None
    → (password : List ℕ) → passes (filepass_body s) password ≡ passes (filepass_body t) password

-- a run reaches question 27 where no other refuses: it opens the stream, or is refused by 27
abbrev pub Reaches27 : (Result Report Refusal) → Type 0
Reaches27 answer = (r : Refusal) → answer ≡ Err r → number r ≡ 27

-- both open, or both are refused
pub record SameAnswers (a b : (Result Report Refusal)) : Type 0 where
  pub opened_to : (told : Report) → a ≡ Ok told → (other : Report) × (b ≡ Ok other)
  pub opened_from : (told : Report) → b ≡ Ok told → (other : Report) × (a ≡ Ok other)
  pub refused_to : (r : Refusal) → a ≡ Err r → b ≡ Err r
  pub refused_from : (r : Refusal) → b ≡ Err r → a ≡ Err r

-- of any runs of `open` with one password that reach question 27, whatever else is lent
abbrev pub OfAnyRuns : Type 0
OfAnyRuns =
    (s t password : List ℕ) (scratch output other_scratch other_output : List ℕ) (a b : (Result Report Refusal)) (scratch' output' other_scratch' other_output' : List ℕ)
    → same_lock s t ≡ true → EndsWithin s ⊎ EndsWithin t
    → Opens s password scratch output a scratch' output' → Opens t password other_scratch other_output b other_scratch' other_output'
    → Reaches27 a → Reaches27 b
    → SameAnswers a b

pub record SamePasswords : Type 0 where
  pub streams : OfStreams
  pub runs : OfAnyRuns
