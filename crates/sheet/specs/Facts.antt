-- The numbers of the C interface: what each operation answers, and the eight facts beside it; facts that are not used are 0.
-- Assumes nothing.
use Rattle.excel97.specs.declared.Report.{Report}
use Rattle.directory.specs.declared.Sheets.{Sheets}
use Rattle.forecast.specs.declared.Counts.{Counts}
use Rattle.std.specs.Option.{unwrap_or}
use Rattle.std.specs.Prelude.{◌≡◌, ℕ, Bool, List, [], ◌∷◌, Some, None, Option, Ok, Err, Result}
use Rattle.laws.specs.Choice.{pick}
use Rattle.binary_office.specs.declared.Version.{Version}
use Rattle.binary_office.specs.declared.Verdict.{Verdict}
use Rattle.binary_office.specs.declared.Verdict.TheVariants.{Yes, No, Unknown}
use Rattle.binary_office.specs.declared.Step.{Step}
use Rattle.binary_office.specs.declared.Step.TheVariants.{Record, Fault, End}
use Rattle.binary_office.specs.Walk.{clear_len}
use Rattle.file_params.specs.declared.Refusal.{Refusal}
use Rattle.file_params.specs.Refusal.{number, first, second}
use Rattle.file_params.specs.Questions.{scratch_need}
use Rattle.excel97.specs.declared.Lock.{Lock}
use Rattle.excel97.specs.declared.Lock.TheVariants.{Xor, Office97, CryptoApi}
use Rattle.excel97.specs.Open.{outcome_with}
use Rattle.sealing.specs.declared.Choice.{Choice}
use Rattle.sealing.specs.Seal.{outcome}

-- true is 1
abbrev pub flag : Bool → ℕ
flag b = pick b 1 0

-- eight facts, of which five are used at most
abbrev pub facts : ℕ → ℕ → ℕ → ℕ → ℕ → List ℕ
facts a b c d e = a ∷ b ∷ c ∷ d ∷ e ∷ 0 ∷ 0 ∷ 0 ∷ []

-- Look: 0 unknown, 1 no, 2 yes; XOR mark, version there, major, minor, key size (0: none)
abbrev pub look_number : Verdict → ℕ
look_number Unknown = 0
look_number No = 1
look_number (Yes f) = 2

abbrev pub there_of : Option Version → ℕ
there_of None = 0
there_of (Some version) = 1

abbrev pub major_of : Option Version → ℕ
major_of None = 0
major_of (Some version) = version.major

abbrev pub minor_of : Option Version → ℕ
minor_of None = 0
minor_of (Some version) = version.minor

abbrev pub look_facts : Verdict → List ℕ
look_facts Unknown = facts 0 0 0 0 0
look_facts No = facts 0 0 0 0 0
look_facts (Yes f) = facts (flag f.xor) (there_of f.version) (major_of f.version) (minor_of f.version) (unwrap_or f.key_size 0)

-- a record: 0 the end, 1 a record, 2 a fault; its id, length and clear length, or the fault's place
abbrev pub record_number : Step → ℕ
record_number End = 0
record_number (Record id len) = 1
record_number (Fault at) = 2

abbrev pub record_facts : Step → List ℕ
record_facts End = facts 0 0 0 0 0
record_facts (Record id len) = facts id len (clear_len id len) 0 0
record_facts (Fault at) = facts at 0 0 0 0

-- an answer that a refusal may take the place of: 0, or the refusal's number
abbrev pub number_of : {A : Type 0} → Result A Refusal → ℕ
number_of (Ok told) = 0
number_of (Err r) = number r

-- a refusal: its two details
abbrev pub refusal_facts : Refusal → List ℕ
refusal_facts r = facts (first r) (second r) 0 0 0

-- the directory: sheets, 1 if there is one at the place, its start; or the refusal's two details
abbrev pub start_facts : (count : ℕ) → Option ℕ → List ℕ
start_facts count None = facts count 0 0 0 0
start_facts count (Some offset) = facts count 1 offset 0 0

abbrev pub directory_facts : Result Sheets Refusal → List ℕ
directory_facts (Ok t) = start_facts t.count t.start
directory_facts (Err r) = refusal_facts r

-- the forecast: output bytes, records, enciphered body bytes, block keys; or the refusal's two details
abbrev pub forecast_facts : Result Counts Refusal → List ℕ
forecast_facts (Ok c) = facts c.output_bytes c.records c.enciphered_body_bytes c.block_keys 0
forecast_facts (Err r) = refusal_facts r

-- Open and sealing: records, lock (0 XOR, 1 1.1, 2 CryptoAPI), key bits, summary sealed, output bytes,
-- enciphered body bytes, block keys; or the refusal's two details
abbrev pub lock_number : Lock → ℕ
lock_number Xor = 0
lock_number Office97 = 1
lock_number CryptoApi = 2

abbrev pub open_facts : Result Report Refusal → List ℕ
open_facts (Ok r) =
    r.records ∷ lock_number r.lock ∷ r.key_bits ∷ flag r.summary_sealed ∷ r.output_bytes ∷ r.enciphered_body_bytes ∷ r.block_keys ∷ 0 ∷ []
open_facts (Err r) = refusal_facts r

-- what opening answers and leaves, where a scratch of `need` bytes is wanted
pub record OpensInCWith (need : ℕ) (stream password scratch output : List ℕ) (number : ℕ) (scratch' output' facts' : List ℕ) : Type 0 where
  pub answered : number ≡ number_of (outcome_with need stream password scratch output).answer
  pub told : facts' ≡ open_facts (outcome_with need stream password scratch output).answer
  pub scratch_left : scratch' ≡ (outcome_with need stream password scratch output).scratch
  pub output_left : output' ≡ (outcome_with need stream password scratch output).output

-- what `sheet_open` answers and leaves
abbrev pub OpensInC : (stream password scratch output : List ℕ) → (number : ℕ) → (scratch' output' facts' : List ℕ) → Type 0
OpensInC = OpensInCWith scratch_need

-- what the three functions that seal answer and leave: as Open, since "Success reports what opening the sealed stream would" (document 02, T-07)
pub record SealsInC (plain password : List ℕ) (choice : Choice) (salt verifier scratch output : List ℕ) (number : ℕ) (scratch' output' facts' : List ℕ) : Type 0 where
  pub answered : number ≡ number_of (outcome plain password choice salt verifier scratch output).answer
  pub told : facts' ≡ open_facts (outcome plain password choice salt verifier scratch output).answer
  pub scratch_left : scratch' ≡ (outcome plain password choice salt verifier scratch output).scratch
  pub output_left : output' ≡ (outcome plain password choice salt verifier scratch output).output
