-- Where the scratch is as long as is wanted, question 3 is passed, so that the questions give the same refusal, or none, as where no scratch is wanted. And once that
-- refusal is known, answer and output do not depend on the scratch.
-- Assumes nothing.
use Rattle.excel97.specs.declared.Report.{Report}
use Rattle.std.specs.Prelude.{Option, None, Some, Result}
use mathlib.Core.Path.{◌≡◌, refl, sym, ◌∙◌}
use mathlib.Core.Bool.{Bool, true, false, not}
use mathlib.Core.List.{List, [], ◌∷◌, ◌++◌}
use Prim.Native.Nat.{ℕ, ◌≤◌, ◌<◌}
use native.Mathlib.Omega.{arith}
use borrow.Author.Tests.{le-leb, lt-leb, leb-true, eqb-false, not-true}
use lib.Dec.{eqb, leb}
use lib.ListN.{length}
use Rattle.laws.specs.Choice.{pick}
use Rattle.laws.proofs.Choice.{taken, left}
use Rattle.sensitive.specs.Utf8.{well_formed}
use Rattle.file_params.specs.declared.Refusal.{Refusal}
use Rattle.file_params.specs.declared.Refusal.TheVariants.{PasswordTooLong, PasswordMalformed, ScratchShort, OutputShort, WrongPassword}
use Rattle.file_params.specs.Refusal.{number}
use Rattle.file_params.specs.Questions.{Question, scratch_need, ask, asked, stream_fits, lent, of_stream, questions, filepass_body}
use Rattle.file_params.proofs.Laws.{from_either}
use Rattle.file_params.proofs.Tables.{given_passes}
use Rattle.excel97.specs.Open.{passes, wiped, outcome_with, OpensWith, Opens}
use Rattle.excel97.proofs.Answers.{later_number, Ran, refusing}
use Rattle.excel97.specs.Scratch.{OfLent, Wants, Scratches}

-- what the questions give where no scratch is wanted
abbrev given : (stream password output : List ℕ) → Option Refusal
given stream password output = asked (questions 0 stream password [] output (passes (filepass_body stream) password))

-- and where there is as much of it as is wanted
lent_enough : (need : ℕ) (stream password scratch output : List ℕ) (a : (Result Report Refusal)) (scratch₁ output₁ : List ℕ) → need ≤ length scratch
    → OpensWith need stream password scratch output a scratch₁ output₁ → Ran need stream password scratch output (given stream password output) a scratch₁ output₁
unfolding outcome_with questions lent
lent_enough need stream password scratch output a scratch₁ output₁ room run =
    record { answered = rw same at run.answered; scratch_left = rw same at run.scratch_left; output_left = rw same at run.output_left }
  where
    same : asked (questions need stream password scratch output (passes (filepass_body stream) password)) ≡ given stream password output
    same = rw (le-leb need (length scratch) room)

-- two runs with the same refusal, whatever each wants and is lent for a scratch
alike_by : (stream password output : List ℕ) (need more : ℕ) (scratch longer : List ℕ) (d : Option Refusal)
    (a b : (Result Report Refusal)) (scratch₁ output₁ longer₁ output₂ : List ℕ)
    → Ran need stream password scratch output d a scratch₁ output₁ → Ran more stream password longer output d b longer₁ output₂
    → (a ≡ b) × (output₁ ≡ output₂)
alike_by stream password output need more scratch longer None a b scratch₁ output₁ longer₁ output₂ x y =
    (x.answered ∙ sym y.answered, x.output_left ∙ sym y.output_left)
alike_by stream password output need more scratch longer (Some r) a b scratch₁ output₁ longer₁ output₂ x y =
    (x.answered ∙ sym y.answered, x.output_left ∙ sym y.output_left)

-- the scratch of one run, by its answer
module _ (need : ℕ) (stream password scratch output : List ℕ) (a : (Result Report Refusal)) (scratch₁ output₁ : List ℕ) where
  untouched_by : (d : Option Refusal) → Ran need stream password scratch output d a scratch₁ output₁ → OfLent a → scratch₁ ≡ scratch
  untouched_by None x (r, h, n) = let e = x.answered in cc
  untouched_by (Some q) x (r, h, n) =
      let e = x.answered in
      let z : q ≡ r = cc in
      x.scratch_left ∙ taken scratch (wiped need scratch) (le-leb (number q) 5 (rw z n))

  zero_by : (d : Option Refusal) → Ran need stream password scratch output d a scratch₁ output₁ → (OfLent a → ⊥) → scratch₁ ≡ wiped need scratch
  zero_by None x f = x.scratch_left
  zero_by (Some q) x f = x.scratch_left ∙ left scratch (wiped need scratch) (go (leb (number q) 5) refl)
    where
      go : (t : Bool) → leb (number q) 5 ≡ t → leb (number q) 5 ≡ false
      go true h = absurd (f (q, x.answered, leb-true (number q) 5 h))
      go false h = h

-- question 3 itself
module _ (stream password scratch output : List ℕ) (a : (Result Report Refusal)) (scratch₁ output₁ : List ℕ) (run : Opens stream password scratch output a scratch₁ output₁) where
  abbrev all : Option Refusal
  all = asked (questions scratch_need stream password scratch output (passes (filepass_body stream) password))

  refused_3 : length scratch < 64 → length password ≤ 1024 → well_formed password ≡ true → all ≡ Some ScratchShort
  unfolding questions lent asked pick
  refused_3 s h e = rw (le-leb (length password) 1024 h, e, lt-leb 64 (length scratch) s) refl

  -- the other questions of what is lent
  abbrev others : List Question
  others =
      ask (leb (length password) 1024) PasswordTooLong ∷ ask (well_formed password) PasswordMalformed ∷ stream_fits (length stream)
      ∷ ask (leb (length stream) (length output)) OutputShort
      ∷ []

  abbrev later : List Question
  later = of_stream stream ++ (ask (passes (filepass_body stream) password) WrongPassword ∷ [])

  without_3 : 64 ≤ length scratch → all ≡ asked (others ++ later)
  unfolding questions lent asked pick
  without_3 h = rw (le-leb 64 (length scratch) h) refl

  not_3 : 64 ≤ length scratch → (r : Refusal) → all ≡ Some r → number r ≡ 3 → ⊥
  not_3 h r e n =
      from_either others later r ⊥
      (λ g. eqb-false (number r) 3 (not-true _ (given_passes (λ (q : Refusal). not (eqb (number q) 3)) others r refl g)) n)
      (λ g. low n (later_number stream (passes (filepass_body stream) password) r g))
      (sym (without_3 h) ∙ e)
    where
      low : number r ≡ 3 → 6 ≤ number r → ⊥
      low n m = omega arith

  by_all : Ran scratch_need stream password scratch output all a scratch₁ output₁
  unfolding outcome_with
  by_all = record { answered = run.answered; scratch_left = run.scratch_left; output_left = run.output_left }

  wants : Wants password scratch output a scratch₁ output₁
  unfolding pick
  wants =
      record {
        short = λ s h e.
            let g = refused_3 s h e in
            ((ScratchShort, rw g at by_all.answered, refl, refl, refl), rw g at by_all.scratch_left, rw g at by_all.output_left);
        enough = λ h r e. not_3 h r (refusing stream password scratch output a scratch₁ output₁ all by_all r e).given;
        untouched = λ l. (
          untouched_by scratch_need stream password scratch output a scratch₁ output₁ all by_all l,
          (refusing stream password scratch output a scratch₁ output₁ all by_all l.0 l.1).untouched,
        );
      }

pub scratches : Scratches
scratches =
    record {
      wants = wants;
      alike = λ stream password output scratch longer a b scratch₁ output₁ longer₁ output₂ room room₂ run run₂.
          let d = given stream password output in
          let x = lent_enough 64 stream password scratch output a scratch₁ output₁ room run in
          let y = lent_enough 2064 stream password longer output b longer₁ output₂ room₂ run₂ in
          let both = alike_by stream password output 64 2064 scratch longer d a b scratch₁ output₁ longer₁ output₂ x y in
          record {
            answer = both.0;
            output = both.1;
            untouched = λ l. (
              untouched_by 2064 stream password longer output b longer₁ output₂ d y l,
              untouched_by 64 stream password scratch output a scratch₁ output₁ d x (rw (← both.0) at l),
            );
            zero = λ f. (
              zero_by 2064 stream password longer output b longer₁ output₂ d y f,
              zero_by 64 stream password scratch output a scratch₁ output₁ d x (λ l. f (rw both.0 at l)),
            );
          };
      same = λ stream password output scratch longer a b scratch₁ output₁ longer₁ output₂ room room₂ run run₂.
          alike_by stream password output 64 64 scratch longer (given stream password output) a b scratch₁ output₁ longer₁ output₂
          (lent_enough 64 stream password scratch output a scratch₁ output₁ room run)
          (lent_enough 64 stream password longer output b longer₁ output₂ room₂ run₂);
    }
