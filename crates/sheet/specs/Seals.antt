-- Sealing in C, beside any run of `sheet_open`: document 02, T-07. The three functions that seal differ in the choice alone.
-- Assumes nothing.
use Rattle.std.specs.Prelude.{◌≡◌, ℕ, ◌≤◌, true, List, length, take, drop, None}
use Rattle.file_params.specs.Questions.{asked, filepass_body}
use Rattle.sealing.specs.declared.Choice.{Choice}
use Rattle.sealing.specs.Filepass.{filepass_for}
use Rattle.sealing.specs.Seal.{admitted, fits}
use Rattle.sealing.specs.Theorems.{Bytes}
use Rattle.sheet.specs.Facts.{OpensInC, SealsInC}

-- the answer is 0, the facts are those that were told, and the stream stands at the start of the output, whose rest is untouched
pub record GivesBackInC (n : ℕ) (told facts stream output output' : List ℕ) : Type 0 where
  pub answer : n ≡ 0
  pub facts_same : facts ≡ told
  pub stream_back : take (length stream) output' ≡ stream
  pub rest_kept : drop (length stream) output' ≡ drop (length stream) output

pub record SealsAndOpensInC : Type 0 where
  -- "Opening a sealed stream with its password yields the plain stream, bit for bit."
  pub opens : (plain password : List ℕ) (choice : Choice) (salt verifier scratch output : List ℕ) (scratch₁ output₁ told : List ℕ)
      → Bytes plain → length salt ≡ 16 → length verifier ≡ 16
      → SealsInC plain password choice salt verifier scratch output 0 scratch₁ output₁ told
      → (scratch₂ output₂ : List ℕ) (n : ℕ) (scratch₃ output₃ facts : List ℕ) → 64 ≤ length scratch₂ → length plain ≤ length output₂
      → OpensInC (take (length plain) output₁) password scratch₂ output₂ n scratch₃ output₃ facts
      → GivesBackInC n told facts plain output₂ output₃
  -- "A stream that opens, and whose first FILEPASS is as sealing writes it [..], yields itself when its opened form is sealed with them."
  pub seals : (stream password scratch output scratch₁ output₁ told : List ℕ) → Bytes stream
      → OpensInC stream password scratch output 0 scratch₁ output₁ told
      → (choice : Choice) (salt verifier : List ℕ) → length salt ≡ 16 → length verifier ≡ 16
      → asked (admitted choice) ≡ None → fits choice (length (filepass_body stream)) ≡ true
      → filepass_body stream ≡ filepass_for choice password salt verifier (length (filepass_body stream))
      → (scratch₂ output₂ : List ℕ) (n : ℕ) (scratch₃ output₃ facts : List ℕ) → 64 ≤ length scratch₂ → length stream ≤ length output₂
      → SealsInC (take (length stream) output₁) password choice salt verifier scratch₂ output₂ n scratch₃ output₃ facts
      → GivesBackInC n told facts stream output₂ output₃
