-- A book that its records fill, and the same book with n bytes of padding behind it, opened with one password: document 02, T-05. Of any two runs that the
-- contract of `open` allows, lent the same scratch and an output with room for both, where the padded book has at most 1 GiB.
-- Assumes nothing.
use Rattle.std.specs.Prelude.{◌≡◌, ℕ, ◌+◌, ◌≤◌, List, [], ◌++◌, length, take, drop, Ok, Err, Result}
use Rattle.binary_office.specs.Walk.{zero_bytes, remainder}
use Rattle.file_params.specs.declared.Refusal.{Refusal}
use Rattle.file_params.specs.Questions.{filepass_body}
use Rattle.survey.specs.Survey.{block_keys}
use Rattle.excel97.specs.declared.Report.{Report}
use Rattle.excel97.specs.Open.{Opens}

-- "output bytes and block keys count it"; the other numbers of the report do not
abbrev pub padded_report : (stream : List ℕ) → (n : ℕ) → Report → Report
padded_report stream n x =
    record {
      records = x.records;
      lock = x.lock;
      key_bits = x.key_bits;
      summary_sealed = x.summary_sealed;
      output_bytes = x.output_bytes + n;
      enciphered_body_bytes = x.enciphered_body_bytes;
      block_keys = block_keys (filepass_body stream) (x.output_bytes + n);
    }

pub record Padded (stream output : List ℕ) (n : ℕ) (a b : (Result Report Refusal)) (scratch₁ output₁ scratch₂ output₂ : List ℕ) : Type 0 where
  -- the padded book is refused exactly where the other is, details included
  pub refused_to : (r : Refusal) → a ≡ Err r → b ≡ Err r
  pub refused_from : (r : Refusal) → b ≡ Err r → a ≡ Err r
  -- and opened where the other is
  pub told : (x : Report) → a ≡ Ok x → b ≡ Ok (padded_report stream n x)
  -- "Open copies the padding through unchanged": behind the plain bytes of the other
  pub copied : (x : Report) → a ≡ Ok x → output₂ ≡ take (length stream) output₁ ++ (zero_bytes n ++ drop (length stream + n) output)
  pub scratch_alike : scratch₂ ≡ scratch₁

abbrev pub OfAnyPaddedBook : Type 0
OfAnyPaddedBook =
    (stream password scratch output : List ℕ) (n : ℕ) (a b : (Result Report Refusal)) (scratch₁ output₁ scratch₂ output₂ : List ℕ)
    → remainder stream ≡ [] → n ≤ 3 → length stream + n ≤ 1073741824 → length stream + n ≤ length output
    → Opens stream password scratch output a scratch₁ output₁ → Opens (stream ++ zero_bytes n) password scratch output b scratch₂ output₂
    → Padded stream output n a b scratch₁ output₁ scratch₂ output₂
