-- The key size in C, of a book that `sheet_open` opens (0) and says to be CryptoAPI (facts[1] is 2): facts[4] of `sheet_look` and facts[2] of `sheet_open`.
-- Assumes nothing.
use Rattle.std.specs.Prelude.{◌≡◌, ℕ, ◌+◌, ◌≤◌, ◌<◌, List, get_or, Some}
use Rattle.binary_office.specs.declared.BiffRecord.{BiffRecord}
use Rattle.binary_office.specs.Walk.{walk}
use Rattle.binary_office.specs.Look.{look}
use Rattle.file_params.specs.Questions.{filepass}
use Rattle.sheet.specs.Facts.{look_facts, OpensInC}

-- by where the first FILEPASS stands
pub record SameInC (stream looked told : List ℕ) : Type 0 where
  pub first : BiffRecord
  pub found : filepass (walk stream).records ≡ Some first
  pub same : first.at + 38 ≤ 1048576 → get_or looked 4 0 ≡ get_or told 2 0
  pub only : get_or looked 4 0 ≡ get_or told 2 0 → first.at + 38 ≤ 1048576
  pub none_behind : 1048576 < first.at + 38 → get_or looked 4 0 ≡ 0

abbrev pub OfAnyRunInC : Type 0
OfAnyRunInC =
    (stream password scratch output looked : List ℕ) (answer : ℕ) (scratch' output' told : List ℕ)
    → looked ≡ look_facts (look stream)
    → OpensInC stream password scratch output answer scratch' output' told → answer ≡ 0 → get_or told 1 0 ≡ 2
    → SameInC stream looked told
