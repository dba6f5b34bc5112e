-- What document 02 says of sealing and opening together, and of two passwords (T-07), over any runs that the contracts of `seal` and `open` allow.
-- Assumes nothing.
use Rattle.std.specs.Prelude.{◌≡◌, ℕ, ◌+◌, ◌≤◌, ◌<◌, true, false, List, [], ◌∷◌, length, get_or, take, drop, None, Some, Ok, Err, Result}
use Rattle.sensitive.specs.Utf8.{well_formed}
use Rattle.binary_office.specs.declared.BiffRecord.{BiffRecord}
use Rattle.binary_office.specs.Walk.{walk, records_end, clear_len}
use Rattle.file_params.specs.declared.Refusal.{Refusal}
use Rattle.file_params.specs.declared.Refusal.TheVariants.{XorPasswordUnfit}
use Rattle.file_params.specs.Numbers.{numbers}
use Rattle.file_params.specs.Questions.{scratch_need, asked, filepass_body}
use Rattle.excel97.specs.declared.Report.{Report}
use Rattle.excel97.specs.Open.{record_at, blanked, Opens}
use Rattle.sealing.specs.declared.Choice.{Choice}
use Rattle.sealing.specs.declared.Choice.TheVariants.{Xor, Office97, CryptoApi}
use Rattle.sealing.specs.Filepass.{filepass_for}
use Rattle.sealing.specs.Seal.{zero_of, admitted, fits, takes, seal_questions, Seals}

-- the numbers of the checks, in their order: "1 to 7 in order, 13 (major, 2), 23 (key size; 0 is refused), then 30 [..]; 31 [..]; 32"
abbrev pub expected : Choice → List ℕ
expected Xor = 1 ∷ 2 ∷ 3 ∷ 4 ∷ 5 ∷ 6 ∷ 7 ∷ 30 ∷ 31 ∷ 32 ∷ []
expected Office97 = 1 ∷ 2 ∷ 3 ∷ 4 ∷ 5 ∷ 6 ∷ 7 ∷ 30 ∷ 31 ∷ 32 ∷ []
expected (CryptoApi major bits) = 1 ∷ 2 ∷ 3 ∷ 4 ∷ 5 ∷ 6 ∷ 7 ∷ 13 ∷ 23 ∷ 30 ∷ 31 ∷ 32 ∷ []

pub record SealNumbered : Type 0 where
  pub numbered : (plain password : List ℕ) (choice : Choice) (scratch output : List ℕ) → numbers (seal_questions plain password choice scratch output) ≡ expected choice

-- a list of bytes, as every slice is
abbrev pub Bytes : List ℕ → Type 0
Bytes s = (i : ℕ) → get_or s i 0 < 256

-- what is opened or sealed again: the report that was told, the stream at the start of the output, and the rest of the output untouched
pub record GivesBack (report told : Report) (stream output output' : List ℕ) : Type 0 where
  pub report_told : report ≡ told
  pub stream_back : take (length stream) output' ≡ stream
  pub rest_kept : drop (length stream) output' ≡ drop (length stream) output

-- "Opening a sealed stream with its password yields the plain stream, bit for bit."
pub record OpensAgain : Type 0 where
  pub opens : (plain password : List ℕ) (choice : Choice) (salt verifier scratch output : List ℕ) (told : Report) (scratch₁ output₁ : List ℕ)
      → Bytes plain → length salt ≡ 16 → length verifier ≡ 16
      → Seals plain password choice salt verifier scratch output (Ok told) scratch₁ output₁
      → (scratch₂ output₂ : List ℕ) (answer : (Result Report Refusal)) (scratch₃ output₃ : List ℕ)
      → scratch_need ≤ length scratch₂ → length plain ≤ length output₂
      → Opens (take (length plain) output₁) password scratch₂ output₂ answer scratch₃ output₃
      → (report : Report) × (answer ≡ Ok report) × GivesBack report told plain output₂ output₃

-- "A stream that opens, and whose first FILEPASS is as sealing writes it for that password, salt, verifier and choices, yields itself when its opened form is sealed
-- with them": where sealing admits the choices and the length
pub record SealsAgain : Type 0 where
  pub seals : (stream password scratch output : List ℕ) (told : Report) (scratch₁ output₁ : List ℕ)
      → Bytes stream
      → Opens stream password scratch output (Ok told) scratch₁ output₁
      → (choice : Choice) (salt verifier : List ℕ) → length salt ≡ 16 → length verifier ≡ 16
      → asked (admitted choice) ≡ None → fits choice (length (filepass_body stream)) ≡ true
      → filepass_body stream ≡ filepass_for choice password salt verifier (length (filepass_body stream))
      → (scratch₂ output₂ : List ℕ) (answer : (Result Report Refusal)) (scratch₃ output₃ : List ℕ)
      → scratch_need ≤ length scratch₂ → length stream ≤ length output₂
      → Seals (take (length stream) output₁) password choice salt verifier scratch₂ output₂ answer scratch₃ output₃
      → (report : Report) × (answer ≡ Ok report) × GivesBack report told stream output₂ output₃

-- an offset in a header, a clear part or the padding
pub data Clear (stream : List ℕ) (o : ℕ) : Type 0 where
  within_record : (r : BiffRecord) → record_at (walk stream).records o ≡ Some r → o < r.at + 4 + clear_len r.id r.len → Clear stream o
  in_padding : records_end stream ≤ o → o < length stream → Clear stream o

-- "Two passwords that both seal give equal clear bytes outside the new FILEPASS", whatever the salts and the verifiers; and the same report
pub record AlikeSealed : Type 0 where
  pub alike : (plain : List ℕ) (choice : Choice) (p q salt verifier salt' verifier' scratch output scratch' output' : List ℕ)
      (report report' : Report) (scratch₁ output₁ scratch₂ output₂ : List ℕ)
      → length salt ≡ 16 → length verifier ≡ 16 → length salt' ≡ 16 → length verifier' ≡ 16
      → Seals plain p choice salt verifier scratch output (Ok report) scratch₁ output₁
      → Seals plain q choice salt' verifier' scratch' output' (Ok report') scratch₂ output₂
      → (report ≡ report')
      × ((o : ℕ) → Clear plain o → blanked (zero_of plain) o ≡ false → (get_or output₁ o 0 ≡ get_or plain o 0) × (get_or output₂ o 0 ≡ get_or plain o 0))

-- two runs that are lent the same, with two passwords that pass questions 1 and 2
pub record TwoSealings (choice : Choice) (p q : List ℕ) (a b : (Result Report Refusal)) (output scratch₁ output₁ scratch₂ output₂ : List ℕ) : Type 0 where
  -- a refusal other than 32 is given to both
  pub same_refusal : (r : Refusal) → (r ≡ XorPasswordUnfit → ⊥) → a ≡ Err r → b ≡ Err r
  -- 32 is given only to a password that the choice does not take, and one that seals is one that it takes
  pub unfit : a ≡ Err XorPasswordUnfit → takes choice p ≡ false
  pub taken : (x : Report) → a ≡ Ok x → takes choice p ≡ true
  -- where the first seals, the second seals if the choice takes its password, and is refused by 32 if not
  pub seals_too : (x : Report) → a ≡ Ok x → takes choice q ≡ true → (y : Report) × (b ≡ Ok y)
  pub refused_too : (x : Report) → a ≡ Ok x → takes choice q ≡ false → b ≡ Err XorPasswordUnfit
  -- the scratch is alike, and so are the outputs where both are refused
  pub same_scratch : scratch₁ ≡ scratch₂
  pub same_output : (r t : Refusal) → a ≡ Err r → b ≡ Err t → (output₁ ≡ output) × (output₂ ≡ output)

pub record AlikeRefused : Type 0 where
  pub two : (plain : List ℕ) (choice : Choice) (p q salt verifier salt' verifier' scratch output : List ℕ) (a b : (Result Report Refusal)) (scratch₁ output₁ scratch₂ output₂ : List ℕ)
      → well_formed p ≡ true → length p ≤ 1024 → well_formed q ≡ true → length q ≤ 1024
      → Seals plain p choice salt verifier scratch output a scratch₁ output₁
      → Seals plain q choice salt' verifier' scratch output b scratch₂ output₂
      → TwoSealings choice p q a b output scratch₁ output₁ scratch₂ output₂
