-- The key size that Look reports and the one that Open reports, of a CryptoAPI book that Open opens (document 02, T-03). Look reads the first 1,048,576 bytes of
-- a stream and no more, so the two are the same exactly where the key size lies within them: a record's header takes 4 bytes, and the key size is the four
-- bytes at byte 30 of the FILEPASS body.
-- Assumes nothing.
use Rattle.file_params.specs.declared.Refusal.{Refusal}
use Rattle.std.specs.Prelude.{◌≡◌, ℕ, ◌+◌, ◌≤◌, ◌<◌, List, Some, None, Ok, Result}
use Rattle.binary_office.specs.declared.Verdict.{Verdict}
use Rattle.binary_office.specs.declared.BiffRecord.{BiffRecord}
use Rattle.binary_office.specs.Walk.{walk}
use Rattle.binary_office.specs.Look.{look}
use Rattle.binary_office.specs.KeySizes.{reported}
use Rattle.file_params.specs.Questions.{filepass}
use Rattle.excel97.specs.declared.Lock.TheVariants.{CryptoApi}
use Rattle.excel97.specs.declared.Report.{Report}
use Rattle.excel97.specs.Open.{Opens}

-- a verdict on a stream beside the report of its opening, by where the first FILEPASS stands
pub record SameKeySize (stream : List ℕ) (verdict : Verdict) (told : Report) : Type 0 where
  pub first : BiffRecord
  pub found : filepass (walk stream).records ≡ Some first
  -- Open reports one
  pub sized : told.key_bits ≡ 0 → ⊥
  -- Look reports the same exactly where the key size lies within what it reads
  pub same : first.at + 38 ≤ 1048576 → reported verdict ≡ Some told.key_bits
  pub only : reported verdict ≡ Some told.key_bits → first.at + 38 ≤ 1048576
  -- and else none
  pub none_behind : 1048576 < first.at + 38 → reported verdict ≡ None

-- of any runs that the contracts of `look` and of `open` allow, where Open opens a CryptoAPI book
abbrev pub OfAnyRun : Type 0
OfAnyRun =
    (stream password scratch output : List ℕ) (verdict : Verdict) (answer : (Result Report Refusal)) (scratch' output' : List ℕ) (told : Report)
    → verdict ≡ look stream
    → Opens stream password scratch output answer scratch' output' → answer ≡ Ok told → told.lock ≡ CryptoApi
    → SameKeySize stream verdict told
