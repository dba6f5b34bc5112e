-- The forecast in C, and beside any run of `sheet_open` on the same stream: the same four facts of a stream that is opened, and the same refusals where enough
-- is lent.
-- Assumes nothing.
use Rattle.std.specs.Prelude.{◌≡◌, ℕ, ◌+◌, ◌*◌, ◌≤◌, true, List, length, get_or}
use Rattle.sensitive.specs.Utf8.{well_formed}
use Rattle.binary_office.specs.Walk.{remainder}
use Rattle.forecast.specs.Forecast.{forecast}
use Rattle.sheet.specs.Facts.{number_of, forecast_facts, OpensInC}

-- facts[0] to facts[3] of `sheet_forecast` are facts[4], [0], [5] and [6] of `sheet_open`
pub record SameFour (foretold told : List ℕ) : Type 0 where
  pub output : get_or foretold 0 0 ≡ get_or told 4 0
  pub records : get_or foretold 1 0 ≡ get_or told 0 0
  pub enciphered : get_or foretold 2 0 ≡ get_or told 5 0
  pub keys : get_or foretold 3 0 ≡ get_or told 6 0

-- a refusal of the one is a refusal of the other, but for 27: the same number and the same eight facts
pub record SameRefusal (n answer : ℕ) (foretold told : List ℕ) : Type 0 where
  pub to : (n ≡ 0 → ⊥) → (answer ≡ n) × (told ≡ foretold) × (n ≡ 27 → ⊥)
  pub from : (answer ≡ 0 → ⊥) → (answer ≡ 27 → ⊥) → (n ≡ answer) × (foretold ≡ told)

pub record ForecastsInC (stream password scratch output : List ℕ) (n answer : ℕ) (foretold told : List ℕ) : Type 0 where
  -- facts[2], four for each of facts[1] and the padding never pass the stream's length
  pub within : n ≡ 0 → get_or foretold 2 0 + 4 * get_or foretold 1 0 + length (remainder stream) ≤ length stream
  pub opened : answer ≡ 0 → (n ≡ 0) × SameFour foretold told
  pub refused : length password ≤ 1024 → well_formed password ≡ true → 64 ≤ length scratch → length stream ≤ length output → SameRefusal n answer foretold told

abbrev pub OfAnyRunInC : Type 0
OfAnyRunInC =
    (stream password scratch output : List ℕ) (n : ℕ) (foretold : List ℕ) (answer : ℕ) (scratch' output' told : List ℕ)
    → n ≡ number_of (forecast stream) → foretold ≡ forecast_facts (forecast stream)
    → OpensInC stream password scratch output answer scratch' output' told
    → ForecastsInC stream password scratch output n answer foretold told
