-- What the functions below Open answer, in terms of its definitions. Nothing that Open promises rests on this file.
-- Assumes nothing.
use Rattle.excel97.specs.declared.Report.{Report}
use Rattle.std.specs.Prelude.{◌≡◌, ℕ, ◌+◌, ◌≤◌, ◌<◌, true, false, List, [], ◌∷◌, ◌++◌, length, get_or, drop, Option, None, Some, Result, Ok, Err}
use Rattle.std.specs.Int.Bits.{bit_xor}
use Rattle.laws.specs.Choice.{pick}
use Rattle.laws.proofs.Written.{Written}
use Rattle.sensitive.specs.Utf8.{well_formed}
use Rattle.xor_obfuscation.specs.Xor.{password_verifier, xor_key}
use Rattle.binary_office.specs.declared.BiffRecord.{BiffRecord}
use Rattle.binary_office.specs.Walk.{walk}
use Rattle.file_params.specs.declared.Refusal.{Refusal}
use Rattle.file_params.specs.declared.Refusal.TheVariants.{WrongPassword}
use Rattle.file_params.specs.Questions.{scratch_need, ask, asked, of_stream, filepass, filepass_body}
use Rattle.block_keys.specs.declared.Schedule.{Schedule}
use Rattle.block_keys.specs.BlockKeys.{block_key, keystream_at, started_blocks}
use Rattle.excel97.specs.declared.XorLock.{XorLock}
use Rattle.excel97.specs.Open.{array_of, passes, plain, record_at, in_record, blanked, outcome_by}

-- a stream's byte at an offset, where the enciphered ones are put through a function
abbrev pub through_at : (stream : List ℕ) → (BiffRecord → ℕ → ℕ → ℕ) → ℕ → ℕ
through_at stream decipher offset = in_record decipher (record_at (walk stream).records offset) offset (get_or stream offset 0)

-- what putting the enciphered bytes of a stream through a function leaves in an output: nothing is written where they have no room
pub record Through (stream : List ℕ) (f : BiffRecord → ℕ → ℕ → ℕ) (d d' : List ℕ) : Type 0 where
  pub written : length stream ≤ length d → Written (through_at stream f) 0 (length stream) d d'
  pub short : length d < length stream → d' ≡ d

-- a byte of a record under the keystream of a schedule
abbrev pub rc4_at : Schedule → BiffRecord → (offset x : ℕ) → ℕ
rc4_at schedule r offset x = bit_xor x (keystream_at 1024 (block_key schedule) offset)

-- what putting them through RC4 leaves, and how many block keys it takes
pub record ThroughRc4 (stream : List ℕ) (schedule : Schedule) (d : List ℕ) (keys : ℕ) (d' : List ℕ) : Type 0 where
  pub through : Through stream (rc4_at schedule) d d'
  pub counted : length stream ≤ length d → keys ≡ started_blocks 1024 (length stream)
  pub uncounted : length d < length stream → keys ≡ 0

-- what an XOR password makes
abbrev pub xor_lock_of : List ℕ → XorLock
xor_lock_of p = record { key = xor_key p; verifier = password_verifier p; array = array_of (Some p) }

-- what trying a password on a lock answers and leaves in the output
pub record Unlocks {A : Type 0} (stream password output : List ℕ) (told : A) (answer : Result A Refusal) (output' : List ℕ) : Type 0 where
  pub answered : answer ≡ pick (passes (filepass_body stream) password) (Ok told) (Err WrongPassword)
  pub left : output' ≡ pick (passes (filepass_body stream) password) (plain stream password ++ drop (length stream) output) output

-- what blanking a FILEPASS leaves
pub record Blanks (filepass : BiffRecord) (d d' : List ℕ) : Type 0 where
  pub same : length d' ≡ length d
  pub zeroed : (o : ℕ) → blanked (Some filepass) o ≡ true → get_or d' o 0 ≡ 0
  pub kept : (o : ℕ) → blanked (Some filepass) o ≡ false → get_or d' o 0 ≡ get_or d o 0

-- a record that is a stream's first FILEPASS
abbrev pub IsFirst : (stream : List ℕ) → BiffRecord → Type 0
IsFirst stream first = filepass (walk stream).records ≡ Some first

-- a stream with its first FILEPASS, and an output with room for it
pub record Ready (stream output : List ℕ) (first : BiffRecord) : Type 0 where
  pub clean : (walk stream).fault ≡ None
  pub found : IsFirst stream first
  pub inside : first.at + 4 + first.len ≤ length stream
  pub room : length stream ≤ length output

-- what questions 1 to 5 leave behind of what is lent: a password of whole characters, and room in scratch and output
pub record Accepted (stream password scratch output : List ℕ) : Type 0 where
  pub formed : well_formed password ≡ true
  pub wiped : 64 ≤ length scratch
  pub room : length stream ≤ length output

-- questions 6 to 27
abbrev pub later_refusal : (stream password : List ℕ) → Option Refusal
later_refusal stream password = asked (of_stream stream ++ (ask (passes (filepass_body stream) password) WrongPassword ∷ []))

-- what is settled once questions 1 to 5 are passed; of the scratch, only the first 64 bytes change
pub record Settles (stream password scratch output : List ℕ) (answer : Result Report Refusal) (scratch' output' : List ℕ) : Type 0 where
  pub answered : answer ≡ (outcome_by scratch_need stream password scratch output (later_refusal stream password)).answer
  pub same : length scratch' ≡ length scratch
  pub kept : drop 64 scratch' ≡ drop 64 scratch
  pub output_left : output' ≡ (outcome_by scratch_need stream password scratch output (later_refusal stream password)).output
