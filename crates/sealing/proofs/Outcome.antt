-- How the checks, asked one group after the other, settle the outcome: a refusal of a group is the first of all questions', and past question 5 the scratch is wiped.
-- Assumes nothing.
use Rattle.excel97.specs.declared.Report.{Report}
use Rattle.std.specs.Prelude.{Option, None, Some, Ok, Err, Result, ⊤, is_some}
use mathlib.Core.Path.{◌≡◌, refl, sym, ap, ◌∙◌}
use mathlib.Core.Bool.{true, false}
use mathlib.Core.List.{List, [], ◌∷◌, ◌++◌, append_assoc}
use Prim.Native.Nat.{ℕ, ◌≤◌}
use borrow.Author.Tests.{le-leb, lt-leb, leb-true}
use lib.Dec.{leb}
use lib.ListN.{length, drop, replicate}
use Rattle.laws.specs.Choice.{pick}
use Rattle.laws.proofs.Choice.{taken, left, stop}
use Rattle.sensitive.specs.Utf8.{well_formed}
use Rattle.binary_office.specs.declared.BiffRecord.{BiffRecord}
use Rattle.binary_office.specs.Walk.{walk}
use Rattle.file_params.specs.declared.Refusal.{Refusal}
use Rattle.file_params.specs.declared.Refusal.TheVariants.{ZeroRecordMissing, ZeroRecordLength, XorPasswordUnfit}
use Rattle.file_params.specs.Refusal.{number}
use Rattle.file_params.specs.Questions.{Question, scratch_need, ask, asked, lent, in_order, unless}
use Rattle.file_params.proofs.Laws.{past, refused, asked_on, asked_stop, unless_refused, unless_passed}
use Rattle.file_params.proofs.Tables.{given_passes}
use Rattle.survey.specs.declared.Counts.{Counts}
use Rattle.survey.specs.Survey.{counts_of}
use Rattle.excel97.specs.Open.{wiped}
use Rattle.sealing.specs.declared.Choice.{Choice}
use Rattle.sealing.specs.declared.Choice.TheVariants.{Xor, Office97, CryptoApi}
use Rattle.sealing.specs.Seal.{zero_of, admitted, fits, zeroed, takes, of_plain, seal_questions, outcome_by, outcome, Seals, len_of}
use Rattle.sealing.specs.Steps.{Ready, later_refusal, Settles}

-- questions 6 to 31
module _ (plain : List ℕ) (choice : Choice) (counts : Counts) (ec : counts ≡ counts_of (walk plain)) where
  abbrev front : List Question
  front = in_order (walk plain).fault (walk plain).records ++ admitted choice

  abbrev rest : List Question
  rest = zeroed choice (zero_of plain)

  joined : front ++ rest ≡ of_plain plain choice
  unfolding of_plain
  joined = append_assoc (in_order (walk plain).fault (walk plain).records) (admitted choice) rest

  front_by : (k : Result ⊤ Refusal) → k ≡ unless tt (asked (in_order counts.fault (walk plain).records ++ admitted choice)) → unless tt (asked front) ≡ k
  front_by k e = sym (e ∙ ap (λ (c : Counts). unless tt (asked (in_order c.fault (walk plain).records ++ admitted choice))) ec)

  pub front_refused : (k : Result ⊤ Refusal) → k ≡ unless tt (asked (in_order counts.fault (walk plain).records ++ admitted choice)) → (r : Refusal) → k ≡ Err r
      → Some r ≡ asked (of_plain plain choice)
  front_refused k e r g = asked_stop front rest r (unless_refused tt (asked front) r (front_by k e ∙ g)) ∙ ap asked joined

  module _ (k : Result ⊤ Refusal) (e : k ≡ unless tt (asked (in_order counts.fault (walk plain).records ++ admitted choice))) (g : k ≡ (Ok tt)) where
    left_over : asked (of_plain plain choice) ≡ asked rest
    left_over = sym (ap asked joined) ∙ asked_on front rest (unless_passed tt tt (asked front) (front_by k e ∙ g))

    pub zero_missing : zero_of plain ≡ None → Some ZeroRecordMissing ≡ asked (of_plain plain choice)
    unfolding asked zeroed
    zero_missing f = refused _ (rw f refl) ∙ sym left_over

    module _ (zero : BiffRecord) (f : zero_of plain ≡ Some zero) where
      there : is_some (zero_of plain) ≡ true
      there = ap is_some f

      length_is : len_of (zero_of plain) ≡ zero.len
      length_is = ap len_of f

      pub length_unfit : fits choice zero.len ≡ false → Some (ZeroRecordLength zero.len) ≡ asked (of_plain plain choice)
      unfolding asked zeroed
      length_unfit h =
          ap (λ (n : ℕ). Some (ZeroRecordLength n)) (sym length_is)
          ∙ past _ there (refused _ (ap (fits choice) length_is ∙ h))
          ∙ sym left_over

      all_yes : fits choice zero.len ≡ true → None ≡ asked rest
      unfolding asked zeroed
      all_yes h = past _ there (past _ (ap (fits choice) length_is ∙ h) refl)

      pub is_ready : fits choice zero.len ≡ true → (password scratch output : List ℕ) → well_formed password ≡ true → 64 ≤ length scratch → length plain ≤ length output
          → Ready plain choice password scratch output counts zero
      is_ready h password scratch output u w o =
          record {
            passed = all_yes h ∙ sym left_over;
            found = f;
            room = o;
            counted = ec;
            password_well_formed = u;
            enough = w;
          }

-- refused before anything is written
module _ (plain password : List ℕ) (choice : Choice) (salt verifier scratch output : List ℕ) where
  abbrev last : List Question
  last = ask (takes choice password) XorPasswordUnfit ∷ []

  settled_by : (d : Option Refusal) (r : Refusal) → Some r ≡ d
      → (Err r ≡ (outcome_by plain password choice salt verifier scratch output d).answer) × (output ≡ (outcome_by plain password choice salt verifier scratch output d).output)
  settled_by None r e = (cc, cc)
  settled_by (Some q) r e = (let z : r ≡ q = cc in ap Err z, refl)

  pub refused_alone : (r : Refusal) → Some r ≡ asked (of_plain plain choice) → Settles plain password choice salt verifier scratch output (Err r) scratch output
  refused_alone r e =
      let g = settled_by (later_refusal plain password choice) r (asked_stop (of_plain plain choice) last r e) in
      record { answered = g.0; same = refl; kept = refl; output_left = g.1 }

  abbrev lending : List Question
  lending = lent scratch_need password (length plain) (length scratch) (length output)

  pub refused_lent : (r : Refusal) → Some r ≡ asked lending → Seals plain password choice salt verifier scratch output (Err r) scratch output
  unfolding outcome seal_questions lent
  refused_lent r e =
      let by = outcome_by plain password choice salt verifier scratch output in
      let g = asked_stop lending (of_plain plain choice ++ last) r e in
      let n = given_passes (λ (q : Refusal). leb (number q) 5) lending r refl (sym e) in
      record {
        answered = ap (λ (d : Option Refusal). (by d).answer) g;
        scratch_left = stop (wiped scratch_need scratch) n ∙ ap (λ (d : Option Refusal). (by d).scratch) g;
        output_left = ap (λ (d : Option Refusal). (by d).output) g;
      }

  -- the refusals behind question 5 have a number of 6 or more
  later_number : (r : Refusal) → later_refusal plain password choice ≡ Some r → 6 ≤ number r
  unfolding of_plain in_order admitted zeroed
  later_number r e = leb-true 6 (number r) (by_choice choice e)
    where
      by_choice : (c : Choice) → asked (of_plain plain c ++ (ask (takes c password) XorPasswordUnfit ∷ [])) ≡ Some r → leb 6 (number r) ≡ true
      by_choice Xor e = given_passes (λ (q : Refusal). leb 6 (number q)) (of_plain plain Xor ++ (ask (takes Xor password) XorPasswordUnfit ∷ [])) r refl e
      by_choice Office97 e = given_passes (λ (q : Refusal). leb 6 (number q)) (of_plain plain Office97 ++ (ask (takes Office97 password) XorPasswordUnfit ∷ [])) r refl e
      by_choice (CryptoApi major bits) e =
          given_passes (λ (q : Refusal). leb 6 (number q)) (of_plain plain (CryptoApi major bits) ++ (ask (takes (CryptoApi major bits) password) XorPasswordUnfit ∷ [])) r refl e

  pub scratch_wiped : (d : Option Refusal) → ((r : Refusal) → d ≡ Some r → 6 ≤ number r)
      → (outcome_by plain password choice salt verifier scratch output d).scratch ≡ wiped scratch_need scratch
  scratch_wiped None f = refl
  scratch_wiped (Some r) f = left scratch (wiped scratch_need scratch) (lt-leb (number r) 5 (f r refl))

  module _ (e : None ≡ asked lending) where
    all_later : asked (seal_questions plain password choice scratch output) ≡ later_refusal plain password choice
    unfolding seal_questions
    all_later = asked_on lending (of_plain plain choice ++ last) e

    -- the scratch is wiped at the end, whatever was settled: n bytes were wiped, and as many are wanted
    pub settled_all : (n : ℕ) (a : (Result Report Refusal)) (w₁ w₂ o₁ : List ℕ) → Settles plain password choice salt verifier scratch output a w₁ o₁ → 64 ≤ length w₁
        → w₂ ≡ pick (leb n (length w₁)) (replicate n 0 ++ drop n w₁) w₁ → n ≡ scratch_need → Seals plain password choice salt verifier scratch output a w₂ o₁
    unfolding outcome
    settled_all n a w₁ w₂ o₁ t h g en =
        let by = outcome_by plain password choice salt verifier scratch output in
        record {
          answered = t.answered ∙ ap (λ (d : Option Refusal). (by d).answer) (sym all_later);
          scratch_left = rw en at g ∙ taken (replicate 64 0 ++ drop 64 w₁) w₁ (le-leb 64 (length w₁) h) ∙ ap (λ (l : List ℕ). replicate 64 0 ++ l) t.kept
              ∙ sym (ap (λ (d : Option Refusal). (by d).scratch) all_later ∙ scratch_wiped (later_refusal plain password choice) (λ r q. later_number r q));
          output_left = t.output_left ∙ ap (λ (d : Option Refusal). (by d).output) (sym all_later);
        }
