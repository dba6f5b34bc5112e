-- Demand 3, over any two runs that the contract of `open` allows: the questions before 27 answer both alike, and past them each is told by its own check.
-- Assumes nothing.
use Rattle.std.specs.Prelude.{Option, None, Some, Ok, Err, Result}
use mathlib.Core.Path.{◌≡◌, refl, sym, ap, ◌∙◌}
use mathlib.Core.Bool.{Bool, true, false}
use mathlib.Core.List.{List}
use Prim.Native.Nat.{ℕ, ◌≤◌}
use native.Mathlib.Omega.{arith}
use lib.ListN.{length, drop}
use lib.Seq.{drop_at}
use Rattle.laws.specs.Choice.{pick}
use Rattle.sensitive.specs.Utf8.{well_formed}
use Rattle.file_params.specs.declared.Refusal.{Refusal}
use Rattle.file_params.specs.declared.Refusal.TheVariants.{WrongPassword}
use Rattle.file_params.specs.Refusal.{number}
use Rattle.file_params.specs.Questions.{scratch_need, asked, filepass_body}
use Rattle.survey.proofs.Told.{ends_clean}
use Rattle.excel97.specs.declared.Report.{Report}
use Rattle.excel97.specs.Open.{passes, plain, report, outcome_by, Opens}
use Rattle.excel97.specs.Demand3.{Plain, Decided, OfAnyTwoRuns}
use Rattle.excel97.proofs.Answers.{earlier, Opening, scratch_by, earlier_number, decided, Ran, ran, refusing, opening, scratch_by_lem, not_last, none_earlier, alone_passed}
use Rattle.excel97.proofs.PlainBytes.{plain_left, length_plain}

-- what the check decides, where no earlier question refuses
module _ (stream p scratch output : List ℕ) (a : (Result Report Refusal)) where
  by_check : (t : Bool) → passes (filepass_body stream) p ≡ t → a ≡ (outcome_by scratch_need stream p scratch output (decided None t)).answer → Decided stream p a
  unfolding pick
  by_check true e g = record { fails = λ r n h. cc; failed = λ h. (WrongPassword, refl, cc); succeeds = λ told h. e; succeeded = λ h. (report stream, g) }
  by_check false e g = record { fails = λ r n h. e; failed = λ h. (WrongPassword, refl, g); succeeds = λ told h. cc; succeeded = λ h. (report stream, cc) }

  by_questions : (c : Option Refusal) → ((r : Refusal) → c ≡ Some r → number r ≤ 26)
      → a ≡ (outcome_by scratch_need stream p scratch output (decided c (passes (filepass_body stream) p))).answer
      → ((r : Refusal) → a ≡ Err r → number r ≡ 27) → Decided stream p a
  by_questions None small g f = by_check (passes (filepass_body stream) p) refl g
  by_questions (Some r) small g f = let e = f r g in let h = small r refl in absurd (no e h)
    where
      no : number r ≡ 27 → number r ≤ 26 → ⊥
      no e h = omega arith

-- one run, by what the earlier questions give and by its check
record Alone (stream p scratch output : List ℕ) (a : (Result Report Refusal)) (scratch₁ output₁ : List ℕ) : Type 0 where
  earlier_refusal : (r : Refusal) → (number r ≡ 27 → ⊥) → a ≡ Err r → asked (earlier stream scratch output) ≡ Some r
  refusal : (r : Refusal) → asked (earlier stream scratch output) ≡ Some r → a ≡ Err r
  check : ((r : Refusal) → a ≡ Err r → number r ≡ 27) → Decided stream p a
  scratch_is : scratch₁ ≡ scratch_by scratch (asked (earlier stream scratch output))
  untouched : (r : Refusal) → a ≡ Err r → output₁ ≡ output
  told : (x : Report) → a ≡ Ok x → x ≡ report stream
  rest : (x : Report) → a ≡ Ok x → drop (length stream) output₁ ≡ drop (length stream) output
  plain_is : (x : Report) → a ≡ Ok x → Plain stream p output₁ x

alone : (stream p scratch output : List ℕ) (a : (Result Report Refusal)) (scratch₁ output₁ : List ℕ) → length p ≤ 1024 → well_formed p ≡ true
    → Opens stream p scratch output a scratch₁ output₁
    → Alone stream p scratch output a scratch₁ output₁
alone stream p scratch output a scratch₁ output₁ short fine run =
    record {
      earlier_refusal = λ r f e. not_last c t r (λ q. f (ap number q)) (refusing stream p scratch output a scratch₁ output₁ (decided c t) this r e).given;
      refusal = λ r e. rw e at this.answered;
      check = by_questions stream p scratch output a c (earlier_number stream scratch output) this.answered;
      scratch_is = this.scratch_left ∙ scratch_by_lem stream p scratch output c t;
      untouched = λ r e. (refusing stream p scratch output a scratch₁ output₁ (decided c t) this r e).untouched;
      told = λ x e. (opens x e).told;
      rest = λ x e. rw (opens x e).written (drop_at (plain stream p) (drop (length stream) output) (length stream) (length_plain stream p));
      plain_is = λ x e.
          let o = opens x e in
          plain_left stream p output output₁ x (ends_clean stream (alone_passed stream scratch output (none_earlier c t o.given))) o.told o.written;
    }
  where
    c : Option Refusal
    c = asked (earlier stream scratch output)

    t : Bool
    t = passes (filepass_body stream) p

    this : Ran scratch_need stream p scratch output (decided c t) a scratch₁ output₁
    this = ran stream p scratch output a scratch₁ output₁ short fine run

    opens : (x : Report) → a ≡ Ok x → Opening stream p scratch output a scratch₁ output₁ (decided c t) x
    opens = opening stream p scratch output a scratch₁ output₁ (decided c t) this

pub demand_3 : OfAnyTwoRuns
demand_3 stream scratch output p q a b scratch₁ output₁ scratch₂ output₂ ps pf qs qf run₁ run₂ =
    let u = alone stream p scratch output a scratch₁ output₁ ps pf run₁ in
    let v = alone stream q scratch output b scratch₂ output₂ qs qf run₂ in
    record {
      refusal_to = λ r f e. v.refusal r (u.earlier_refusal r f e);
      refusal_from = λ r f e. u.refusal r (v.earlier_refusal r f e);
      else_first = u.check;
      else_second = v.check;
      refused_scratch = λ r s e g. u.scratch_is ∙ sym v.scratch_is;
      refused_output = λ r s e g. u.untouched r e ∙ sym (v.untouched s g);
      passed_report = λ x y e g. u.told x e ∙ sym (v.told y g);
      passed_scratch = λ x y e g. u.scratch_is ∙ sym v.scratch_is;
      passed_rest = λ x y e g. u.rest x e ∙ sym (v.rest y g);
      passed_padding = λ x y e g o h k. (u.plain_is x e).padded o h k ∙ sym ((v.plain_is y g).padded o h k);
      plain_first = u.plain_is;
      plain_second = v.plain_is;
    }
