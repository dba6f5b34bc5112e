-- Scratch of 64 bytes in C, from `excel97`: a number from 1 to 5 is that of a refusal by what is lent.
-- Assumes nothing.
use Rattle.std.specs.Prelude.{Ok, Err, Result}
use Rattle.excel97.specs.declared.Report.{Report}
use mathlib.Core.Path.{◌≡◌, refl, sym, ap, ◌∙◌}
use mathlib.Core.List.{List}
use Prim.Native.Nat.{ℕ, ◌≤◌}
use native.Mathlib.Omega.{arith}
use lib.ListN.{length, replicate}
use Rattle.file_params.specs.declared.Refusal.{Refusal}
use Rattle.file_params.specs.Refusal.{number}
use Rattle.excel97.specs.Open.{outcome_with, OpensWith}
use Rattle.excel97.specs.Scratch.{OfLent, ByThree}
use Rattle.excel97.proofs.Scratch.{scratches}
use Rattle.sheet.specs.Facts.{number_of, open_facts, OpensInCWith, OpensInC}
use Rattle.sheet.specs.Scratch.{WantsInC, AlikeInC, ScratchesInC}
use Rattle.sheet.proofs.Numbers.{at_least_one}

-- the run of `excel97` behind a run in C
module _ (need : ℕ) (stream password scratch output : List ℕ) (n : ℕ) (scratch₁ output₁ told : List ℕ)
    (run : OpensInCWith need stream password scratch output n scratch₁ output₁ told) where
  abbrev answer : (Result Report Refusal)
  answer = (outcome_with need stream password scratch output).answer

  behind : OpensWith need stream password scratch output answer scratch₁ output₁
  behind = record { answered = refl; scratch_left = run.scratch_left; output_left = run.output_left }

-- numbers 1 to 5
of_lent : (a : (Result Report Refusal)) → 1 ≤ number_of a → number_of a ≤ 5 → OfLent a
of_lent (Ok x) h k = absurd (omega arith)
of_lent (Err r) h k = (r, refl, k)

lent_number : (a : (Result Report Refusal)) → OfLent a → (1 ≤ number_of a) × (number_of a ≤ 5)
lent_number a (r, e, k) = rw e (at_least_one r, k)

-- number 3
refusal_of : (a : (Result Report Refusal)) → number_of a ≡ 3 → (r : Refusal) × (a ≡ Err r) × (number r ≡ 3)
refusal_of (Ok x) e = absurd (omega arith)
refusal_of (Err r) e = (r, refl, e)

of_3 : (a : (Result Report Refusal)) → ByThree a → (number_of a ≡ 3) × (open_facts a ≡ replicate 8 0)
of_3 a (r, e, k, d, f) = rw (e, d, f) (k, refl)

module _ (stream password scratch output : List ℕ) (n : ℕ) (scratch₁ output₁ told : List ℕ)
    (run : OpensInC stream password scratch output n scratch₁ output₁ told) where
  abbrev told_by : (Result Report Refusal)
  told_by = answer 64 stream password scratch output n scratch₁ output₁ told run

  wants : WantsInC password scratch output n scratch₁ output₁ told
  wants =
      let w = scratches.wants stream password scratch output told_by scratch₁ output₁ (behind 64 stream password scratch output n scratch₁ output₁ told run) in
      record {
        short = λ s h e.
            let t = w.short s h e in
            let u = of_3 told_by t.0 in
            (run.answered ∙ u.0, run.told ∙ u.1, t.1, t.2);
        enough = λ h e.
            let t = refusal_of told_by (sym run.answered ∙ e) in
            w.enough h t.0 t.1 t.2;
        untouched = λ h k. w.untouched (of_lent told_by (rw run.answered at h) (rw run.answered at k));
      }

module _ (stream password output scratch longer : List ℕ) (n m : ℕ) (scratch₁ output₁ told longer₁ output₂ told₂ : List ℕ)
    (room : 64 ≤ length scratch) (room₂ : 2064 ≤ length longer)
    (run : OpensInC stream password scratch output n scratch₁ output₁ told) (run₂ : OpensInCWith 2064 stream password longer output m longer₁ output₂ told₂) where
  alike : AlikeInC scratch longer n m scratch₁ output₁ told longer₁ output₂ told₂
  alike =
      let a = answer 64 stream password scratch output n scratch₁ output₁ told run in
      let b = answer 2064 stream password longer output m longer₁ output₂ told₂ run₂ in
      let both = scratches.alike stream password output scratch longer a b scratch₁ output₁ longer₁ output₂ room room₂
      (behind 64 stream password scratch output n scratch₁ output₁ told run)
      (behind 2064 stream password longer output m longer₁ output₂ told₂ run₂) in
      record {
        answer = run.answered ∙ ap number_of both.answer ∙ sym run₂.answered;
        facts = run.told ∙ ap open_facts both.answer ∙ sym run₂.told;
        output = both.output;
        untouched = λ h k. both.untouched (of_lent b (rw run₂.answered at h) (rw run₂.answered at k));
        zero = λ f.
            both.zero
            (λ l.
            let number_b = lent_number b l in
            f (rw run₂.answered number_b.0) (rw run₂.answered number_b.1));
      }

module _ (stream password output scratch longer : List ℕ) (n m : ℕ) (scratch₁ output₁ told longer₁ output₂ told₂ : List ℕ)
    (room : 64 ≤ length scratch) (room₂ : 64 ≤ length longer)
    (run : OpensInC stream password scratch output n scratch₁ output₁ told) (run₂ : OpensInC stream password longer output m longer₁ output₂ told₂) where
  same : (n ≡ m) × (told ≡ told₂) × (output₁ ≡ output₂)
  same =
      let both = scratches.same stream password output scratch longer _ _ scratch₁ output₁ longer₁ output₂ room room₂
      (behind 64 stream password scratch output n scratch₁ output₁ told run)
      (behind 64 stream password longer output m longer₁ output₂ told₂ run₂) in
      (run.answered ∙ ap number_of both.0 ∙ sym run₂.answered, run.told ∙ ap open_facts both.0 ∙ sym run₂.told, both.1)

pub scratches_in_c : ScratchesInC
scratches_in_c = record { wants = wants; alike = alike; same = same }
