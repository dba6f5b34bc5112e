-- Scratch of 64 bytes in C: document 02, T-06. Of any run of `sheet_open`, and beside it of any run that wanted 2,064 bytes, on the same stream, with the same
-- password and an equal copy of the same output, each with a scratch of its own.
-- Assumes nothing.
use Rattle.std.specs.Prelude.{◌≡◌, ℕ, ◌≤◌, ◌<◌, true, List, ◌++◌, length, drop, replicate}
use Rattle.sensitive.specs.Utf8.{well_formed}
use Rattle.sheet.specs.Facts.{OpensInCWith, OpensInC}

-- "Question 3 shall want at least 64"
pub record WantsInC (password scratch output : List ℕ) (n : ℕ) (scratch₁ output₁ told : List ℕ) : Type 0 where
  -- for a shorter one the answer is 3, where 1 and 2 are passed, with eight zero facts, and nothing is touched
  pub short : length scratch < 64 → length password ≤ 1024 → well_formed password ≡ true
      → (n ≡ 3) × (told ≡ replicate 8 0) × (scratch₁ ≡ scratch) × (output₁ ≡ output)
  -- and for no other
  pub enough : 64 ≤ length scratch → n ≡ 3 → ⊥
  -- on 1 to 5 nothing is touched, however short the scratch is
  pub untouched : 1 ≤ n → n ≤ 5 → (scratch₁ ≡ scratch) × (output₁ ≡ output)

-- the run that wants 64 bytes, and the one that wanted 2,064
pub record AlikeInC (scratch longer : List ℕ) (n m : ℕ) (scratch₁ output₁ told longer₁ output₂ told₂ : List ℕ) : Type 0 where
  -- "With 64 or more, reports, refusals and output are those that 2,064 bytes gave"
  pub answer : n ≡ m
  pub facts : told ≡ told₂
  pub output : output₁ ≡ output₂
  -- "and exactly the first 64 end zero where 2,064 did": on 1 to 5 nothing is touched
  pub untouched : 1 ≤ m → m ≤ 5 → (longer₁ ≡ longer) × (scratch₁ ≡ scratch)
  pub zero : (1 ≤ m → m ≤ 5 → ⊥) → (longer₁ ≡ replicate 2064 0 ++ drop 2064 longer) × (scratch₁ ≡ replicate 64 0 ++ drop 64 scratch)

pub record ScratchesInC : Type 0 where
  pub wants : (stream password scratch output : List ℕ) (n : ℕ) (scratch₁ output₁ told : List ℕ)
      → OpensInC stream password scratch output n scratch₁ output₁ told → WantsInC password scratch output n scratch₁ output₁ told
  pub alike : (stream password output scratch longer : List ℕ) (n m : ℕ) (scratch₁ output₁ told longer₁ output₂ told₂ : List ℕ)
      → 64 ≤ length scratch → 2064 ≤ length longer
      → OpensInC stream password scratch output n scratch₁ output₁ told → OpensInCWith 2064 stream password longer output m longer₁ output₂ told₂
      → AlikeInC scratch longer n m scratch₁ output₁ told longer₁ output₂ told₂
  -- and however long the scratch is, and whatever stands in it
  pub same : (stream password output scratch longer : List ℕ) (n m : ℕ) (scratch₁ output₁ told longer₁ output₂ told₂ : List ℕ)
      → 64 ≤ length scratch → 64 ≤ length longer
      → OpensInC stream password scratch output n scratch₁ output₁ told → OpensInC stream password longer output m longer₁ output₂ told₂
      → (n ≡ m) × (told ≡ told₂) × (output₁ ≡ output₂)
