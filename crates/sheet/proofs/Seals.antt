-- Sealing in C, from `sealing`: a number is 0 where nothing is refused, and the facts are those of the report.
-- Assumes nothing.
use Rattle.std.specs.Prelude.{Ok, Err, Result}
use Rattle.file_params.specs.declared.Refusal.{Refusal}
use mathlib.Core.Path.{◌≡◌, refl, sym, ap, ◌∙◌}
use mathlib.Core.List.{List}
use Prim.Native.Nat.{ℕ}
use lib.ListN.{length, take}
use Rattle.excel97.specs.declared.Report.{Report}
use Rattle.excel97.specs.Open as opening
use Rattle.excel97.specs.Open.{Opens}
use Rattle.sealing.specs.declared.Choice.{Choice}
use Rattle.sealing.specs.Seal.{outcome, Seals}
use Rattle.sealing.proofs.Proved.{opens_again, seals_again}
use Rattle.sheet.specs.Facts.{number_of, open_facts, OpensInC, SealsInC}
use Rattle.sheet.specs.Seals.{SealsAndOpensInC}
use Rattle.sheet.proofs.Numbers.{not_refused}

-- an answer of 0 is a report
reported_by : (a : Result Report Refusal) → number_of a ≡ 0 → (x : Report) × (a ≡ Ok x)
reported_by (Ok x) e = (x, refl)
reported_by (Err r) e = not_refused r e

module _ (plain password : List ℕ) (choice : Choice) (salt verifier scratch output : List ℕ) (n : ℕ) (scratch₁ output₁ told : List ℕ)
    (run : SealsInC plain password choice salt verifier scratch output n scratch₁ output₁ told) where
  seals : (a : Result Report Refusal) → (outcome plain password choice salt verifier scratch output).answer ≡ a → Seals plain password choice salt verifier scratch output a scratch₁ output₁
  seals a e = record { answered = sym e; scratch_left = run.scratch_left; output_left = run.output_left }

module _ (stream password scratch output : List ℕ) (n : ℕ) (scratch₁ output₁ told : List ℕ) (run : OpensInC stream password scratch output n scratch₁ output₁ told) where
  opens : (a : Result Report Refusal) → (opening.outcome stream password scratch output).answer ≡ a → Opens stream password scratch output a scratch₁ output₁
  opens a e = record { answered = sym e; scratch_left = run.scratch_left; output_left = run.output_left }

pub seals_and_opens_in_c : SealsAndOpensInC
seals_and_opens_in_c =
    record {
      opens = λ plain password choice salt verifier scratch output scratch₁ output₁ told bytes hs hv run scratch₂ output₂ n scratch₃ output₃ facts enough room again.
          let first = (outcome plain password choice salt verifier scratch output).answer in
          let x = reported_by first (sym run.answered) in
          let stream = take (length plain) output₁ in
          let second = (opening.outcome stream password scratch₂ output₂).answer in
          let g = opens_again.opens plain password choice salt verifier scratch output x.0 scratch₁ output₁ bytes hs hv
          (seals plain password choice salt verifier scratch output 0 scratch₁ output₁ told run (Ok x.0) x.1)
          scratch₂ output₂ second scratch₃ output₃ enough room (opens stream password scratch₂ output₂ n scratch₃ output₃ facts again second refl) in
          let same : second ≡ first = g.1 ∙ ap Ok g.2.report_told ∙ sym x.1 in
          record {
            answer = again.answered ∙ ap number_of g.1;
            facts_same = again.told ∙ ap open_facts same ∙ sym run.told;
            stream_back = g.2.stream_back;
            rest_kept = g.2.rest_kept;
          };
      seals = λ stream password scratch output scratch₁ output₁ told bytes run choice salt verifier hs hv admits fitting as_written scratch₂ output₂ n scratch₃ output₃ facts enough room again.
          let first = (opening.outcome stream password scratch output).answer in
          let x = reported_by first (sym run.answered) in
          let plain = take (length stream) output₁ in
          let second = (outcome plain password choice salt verifier scratch₂ output₂).answer in
          let g = seals_again.seals stream password scratch output x.0 scratch₁ output₁ bytes
          (opens stream password scratch output 0 scratch₁ output₁ told run (Ok x.0) x.1)
          choice salt verifier hs hv admits fitting as_written scratch₂ output₂ second scratch₃ output₃ enough room
          (seals plain password choice salt verifier scratch₂ output₂ n scratch₃ output₃ facts again second refl) in
          let same : second ≡ first = g.1 ∙ ap Ok g.2.report_told ∙ sym x.1 in
          record {
            answer = again.answered ∙ ap number_of g.1;
            facts_same = again.told ∙ ap open_facts same ∙ sym run.told;
            stream_back = g.2.stream_back;
            rest_kept = g.2.rest_kept;
          };
    }
