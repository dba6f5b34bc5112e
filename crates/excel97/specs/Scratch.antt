-- Scratch of 64 bytes: document 02, T-06. Of any run that the contract of `open` allows, and beside it of any run that wanted 2,064 bytes, on the same stream,
-- with the same password and an equal copy of the same output, each with a scratch of its own.
-- Assumes nothing.
use Rattle.excel97.specs.declared.Report.{Report}
use Rattle.std.specs.Prelude.{◌≡◌, ℕ, ◌≤◌, ◌<◌, true, List, ◌++◌, length, drop, replicate, Err, Result}
use Rattle.sensitive.specs.Utf8.{well_formed}
use Rattle.file_params.specs.declared.Refusal.{Refusal}
use Rattle.file_params.specs.Refusal.{number, first, second}
use Rattle.excel97.specs.Open.{OpensWith, Opens}

-- an answer of questions 1 to 5
abbrev pub OfLent : (Result Report Refusal) → Type 0
OfLent a = (r : Refusal) × (a ≡ Err r) × (number r ≤ 5)

-- refused by 3, which has no details
abbrev pub ByThree : (Result Report Refusal) → Type 0
ByThree a = (r : Refusal) × (a ≡ Err r) × (number r ≡ 3) × (first r ≡ 0) × (second r ≡ 0)

-- "Question 3 shall want at least 64"
pub record Wants (password scratch output : List ℕ) (a : (Result Report Refusal)) (scratch₁ output₁ : List ℕ) : Type 0 where
  -- a shorter one is refused by 3, where 1 and 2 are passed, and nothing is touched
  pub short : length scratch < 64 → length password ≤ 1024 → well_formed password ≡ true
      → ByThree a × (scratch₁ ≡ scratch) × (output₁ ≡ output)
  -- and no other is refused by 3
  pub enough : 64 ≤ length scratch → (r : Refusal) → a ≡ Err r → number r ≡ 3 → ⊥
  -- on 1 to 5 nothing is touched, however short the scratch is
  pub untouched : OfLent a → (scratch₁ ≡ scratch) × (output₁ ≡ output)

-- the run that wants 64 bytes, and the one that wanted 2,064
pub record Alike (scratch longer : List ℕ) (a b : (Result Report Refusal)) (scratch₁ output₁ longer₁ output₂ : List ℕ) : Type 0 where
  -- "With 64 or more, reports, refusals and output are those that 2,064 bytes gave"
  pub answer : a ≡ b
  pub output : output₁ ≡ output₂
  -- "and exactly the first 64 end zero where 2,064 did": on 1 to 5 nothing is touched
  pub untouched : OfLent b → (longer₁ ≡ longer) × (scratch₁ ≡ scratch)
  pub zero : (OfLent b → ⊥) → (longer₁ ≡ replicate 2064 0 ++ drop 2064 longer) × (scratch₁ ≡ replicate 64 0 ++ drop 64 scratch)

pub record Scratches : Type 0 where
  pub wants : (stream password scratch output : List ℕ) (a : (Result Report Refusal)) (scratch₁ output₁ : List ℕ)
      → Opens stream password scratch output a scratch₁ output₁ → Wants password scratch output a scratch₁ output₁
  -- for every stream, every password and every output; "for passwords of 1,024 bytes too"
  pub alike : (stream password output scratch longer : List ℕ) (a b : (Result Report Refusal)) (scratch₁ output₁ longer₁ output₂ : List ℕ)
      → 64 ≤ length scratch → 2064 ≤ length longer
      → Opens stream password scratch output a scratch₁ output₁ → OpensWith 2064 stream password longer output b longer₁ output₂
      → Alike scratch longer a b scratch₁ output₁ longer₁ output₂
  -- and however long the scratch is, and whatever stands in it
  pub same : (stream password output scratch longer : List ℕ) (a b : (Result Report Refusal)) (scratch₁ output₁ longer₁ output₂ : List ℕ)
      → 64 ≤ length scratch → 64 ≤ length longer
      → Opens stream password scratch output a scratch₁ output₁ → Opens stream password longer output b longer₁ output₂
      → (a ≡ b) × (output₁ ≡ output₂)
