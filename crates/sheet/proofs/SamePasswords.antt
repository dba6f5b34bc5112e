-- Same passwords in C, from `same_passwords`: no refusal has the number 0, so that a call that returns 0 or 27 reached question 27.
-- Assumes nothing.
use Rattle.std.specs.Prelude.{Ok, Err, Result}
use Rattle.file_params.specs.declared.Refusal.{Refusal}
use Rattle.excel97.specs.declared.Report.{Report}
use mathlib.Core.Path.{◌≡◌, refl, sym, ap, ◌∙◌}
use mathlib.Core.List.{List}
use mathlib.Core.Logic.{◌⊎◌, inl, inr}
use Prim.Native.Nat.{ℕ}
use Rattle.file_params.specs.Refusal.{number}
use Rattle.excel97.specs.Open.{outcome, Opens}
use Rattle.same_passwords.specs.SamePasswords.{Reaches27, SameAnswers}
use Rattle.same_passwords.proofs.SamePasswords.{same_passwords}
use Rattle.sheet.specs.Facts.{number_of, OpensInC}
use Rattle.sheet.specs.SamePasswords.{OfAnyRunsInC}
use Rattle.sheet.proofs.Numbers.{not_refused}

-- one call: its answer, which reached question 27
module _ (stream password scratch output : List ℕ) (n : ℕ) (scratch' output' told : List ℕ) (run : OpensInC stream password scratch output n scratch' output' told) where
  abbrev answer : (Result Report Refusal)
  answer = (outcome stream password scratch output).answer

  opens : Opens stream password scratch output answer scratch' output'
  opens = record { answered = refl; scratch_left = run.scratch_left; output_left = run.output_left }

  reaches : (n ≡ 0) ⊎ (n ≡ 27) → Reaches27 answer
  reaches by r e = go by (run.answered ∙ ap number_of e)
    where
      go : (n ≡ 0) ⊎ (n ≡ 27) → n ≡ number r → number r ≡ 27
      go (inl z) g = not_refused r (sym g ∙ z)
      go (inr z) g = sym g ∙ z

-- the same answers have the same number
same_number : (a b : (Result Report Refusal)) → SameAnswers a b → number_of a ≡ number_of b
same_number (Ok x) b h = sym (ap number_of (h.opened_to x refl).1)
same_number (Err r) b h = sym (ap number_of (h.refused_to r refl))

pub same_passwords_in_c : OfAnyRunsInC
same_passwords_in_c s t p same w o x q a b w' o' told x' q' told' told_same holds within run other-run first second =
    run.answered
    ∙ same_number _ _
    (same_passwords.runs s t p w o x q _ _ w' o' x' q' (sym told_same ∙ holds) within
    (opens s p w o a w' o' told run) (opens t p x q b x' q' told' other-run)
    (reaches s p w o a w' o' told run first) (reaches t p x q b x' q' told' other-run second))
    ∙ sym other-run.answered
