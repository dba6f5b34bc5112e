-- The forecast in C, from `forecast`: a number is 0 where nothing is refused, and the facts are those of the counts, of the report, or of the refusal.
-- Assumes nothing.
use Rattle.std.specs.Prelude.{Ok, Err, Result}
use Rattle.file_params.specs.declared.Refusal.{Refusal}
use Rattle.excel97.specs.declared.Report.{Report}
use Rattle.forecast.specs.declared.Counts.{Counts}
use mathlib.Core.Path.{◌≡◌, refl, sym, ap}
use mathlib.Core.List.{List}
use Prim.Native.Nat.{ℕ, ◌+◌, ◌*◌, ◌≤◌}
use lib.ListN.{length, get_or}
use Rattle.binary_office.specs.Walk.{remainder}
use Rattle.excel97.specs.Open.{outcome, Opens}
use Rattle.forecast.specs.Forecast.{forecast}
use Rattle.forecast.specs.Theorems.{SameRefusals}
use Rattle.forecast.proofs.Proved.{forecasts}
use Rattle.sheet.specs.Facts.{number_of, forecast_facts, open_facts, OpensInC}
use Rattle.sheet.specs.Forecasts.{SameFour, SameRefusal, OfAnyRunInC}
use Rattle.sheet.proofs.Numbers.{not_refused}

-- what a forecast tells lies within the stream
in_stream : (stream : List ℕ) (f : (Result Counts Refusal)) → forecast stream ≡ f → number_of f ≡ 0
    → get_or (forecast_facts f) 2 0 + 4 * get_or (forecast_facts f) 1 0 + length (remainder stream) ≤ length stream
in_stream stream (Ok c) e z = (forecasts.counts stream c e).within
in_stream stream (Err r) e z = not_refused r z

-- two answers that refuse alike
by_answers : (f : (Result Counts Refusal)) (a : (Result Report Refusal)) → SameRefusals f a → SameRefusal (number_of f) (number_of a) (forecast_facts f) (open_facts a)
by_answers f a s = record { to = to f refl; from = from a refl }
  where
    to : (g : (Result Counts Refusal)) → f ≡ g → (number_of g ≡ 0 → ⊥)
        → (number_of a ≡ number_of g) × (open_facts a ≡ forecast_facts g) × (number_of g ≡ 27 → ⊥)
    to (Ok c) e n = absurd (n refl)
    to (Err r) e n = let h = s.to r e in (ap number_of h.0, ap open_facts h.0, h.1)

    from : (b : (Result Report Refusal)) → a ≡ b → (number_of b ≡ 0 → ⊥) → (number_of b ≡ 27 → ⊥) → (number_of f ≡ number_of b) × (forecast_facts f ≡ open_facts b)
    from (Ok x) e n m = absurd (n refl)
    from (Err r) e n m = let h = s.from r e m in (ap number_of h, ap forecast_facts h)

module _ (stream password scratch output : List ℕ) (answer : ℕ) (scratch' output' told : List ℕ) (run : OpensInC stream password scratch output answer scratch' output' told) where
  runs : (a : (Result Report Refusal)) → (outcome stream password scratch output).answer ≡ a → Opens stream password scratch output a scratch' output'
  runs a e = record { answered = sym e; scratch_left = run.scratch_left; output_left = run.output_left }

  by_report : (a : (Result Report Refusal)) → (outcome stream password scratch output).answer ≡ a → number_of a ≡ 0
      → (number_of (forecast stream) ≡ 0) × SameFour (forecast_facts (forecast stream)) (open_facts a)
  by_report (Err r) e z = not_refused r z
  by_report (Ok x) e z =
      let h = forecasts.of_any_run stream password scratch output x scratch' output' (runs (Ok x) e) in
      let same = h.2 in (
        ap number_of h.1,
        rw h.1 (record { output = same.output; records = same.records; enciphered = same.enciphered; keys = same.keys }),
      )

pub forecasts_in_c : OfAnyRunInC
forecasts_in_c stream password scratch output n foretold answer scratch' output' told en ef run =
    let a = (outcome stream password scratch output).answer in
    rw (en, ef, run.answered, run.told)
    (record {
      within = in_stream stream (forecast stream) refl;
      opened = by_report stream password scratch output answer scratch' output' told run a refl;
      refused = λ short fine room fits.
          by_answers (forecast stream) a
          (forecasts.refused stream password scratch output a scratch' output' short fine room fits
          (runs stream password scratch output answer scratch' output' told run a refl));
    })
