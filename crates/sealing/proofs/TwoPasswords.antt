-- Two sealings of one plain stream. Both have the plain stream's own bytes in headers, clear parts and padding, and both tell what the choice and the records decide; and
-- questions 1 to 31 are the same for every password that passes the first two, so that only 32 can part them.
-- Assumes nothing.
use Rattle.std.specs.Prelude.{Option, None, Some, Ok, Err, Result}
use mathlib.Core.Path.{◌≡◌, refl, sym, ap, ◌∙◌}
use mathlib.Core.Bool.{Bool, true, false, not}
use mathlib.Core.List.{List, [], ◌∷◌, ◌++◌, append_assoc}
use Prim.Native.Nat.{ℕ, ◌-◌, ◌≤◌, ◌<◌}
use native.Mathlib.Omega.{arith}
use lib.Dec.{eqb}
use lib.ListN.{length, get_or, drop, get_or-append}
use Rattle.laws.specs.Choice.{pick}
use Rattle.sensitive.specs.Utf8.{well_formed}
use Rattle.binary_office.specs.declared.BiffRecord.{BiffRecord}
use Rattle.binary_office.specs.Walk.{walk}
use Rattle.file_params.specs.declared.Refusal.{Refusal}
use Rattle.file_params.specs.declared.Refusal.TheVariants.{XorPasswordUnfit}
use Rattle.file_params.specs.Refusal.{number}
use Rattle.file_params.specs.Numbers.{numbers}
use Rattle.file_params.specs.Questions.{Question, scratch_need, ask, asked, lent, in_order}
use Rattle.file_params.proofs.Tables.{given_passes}
use Rattle.survey.specs.Survey.{enciphered_bytes}
use Rattle.excel97.specs.declared.Report.{Report}
use Rattle.excel97.specs.Open.{record_at, in_record, blanked, report}
use Rattle.excel97.proofs.Answers.{same_lent, decided_by, behind}
use Rattle.excel97.proofs.Blanked.{never}
use Rattle.excel97.proofs.PlainBytes.{in_stream}
use Rattle.excel97.proofs.SameBounds.{behind_records}
use Rattle.excel97.proofs.Through.{own_byte}
use Rattle.sealing.specs.declared.Choice.{Choice}
use Rattle.sealing.specs.declared.Choice.TheVariants.{Xor, Office97, CryptoApi}
use Rattle.sealing.specs.Seal.{zero_of, admitted, fits, zeroed, takes, of_plain, seal_questions, sealed_byte, sealed, Outcome, outcome_by, outcome, Seals, len_of}
use Rattle.sealing.specs.Theorems.{expected, SealNumbered, Clear, within_record, in_padding, AlikeSealed, AlikeRefused}
use Rattle.sealing.proofs.Bodies.{report_for, read_back}
use Rattle.sealing.proofs.Sealed.{length_sealed, sealed_at_lem, old_byte, reported}
use Rattle.sealing.proofs.Runs.{HasSealed, has_sealed}

-- one sealing: its report, and its clear bytes
module _ (plain password : List ℕ) (choice : Choice) (salt verifier scratch output : List ℕ) (x : Report) (scratch₁ output₁ : List ℕ) (hs : length salt ≡ 16)
    (hv : length verifier ≡ 16) (run : Seals plain password choice salt verifier scratch output (Ok x) scratch₁ output₁) where
  ran : HasSealed plain password choice salt verifier scratch output x output₁
  ran = has_sealed plain password choice salt verifier scratch output x scratch₁ output₁ run

  told : (z : BiffRecord) → zero_of plain ≡ Some z → x ≡ report_for choice (length (walk plain).records) (length plain) (enciphered_bytes (walk plain).records - z.len)
  told z found =
      let fitting : fits choice z.len ≡ true = ap (λ (o : Option BiffRecord). fits choice (len_of o)) (sym found) ∙ ran.passed.fitting in
      let back = read_back password salt verifier hs hv choice z.len ran.passed.admits fitting ran.taken in
      ran.told ∙ reported plain password choice salt verifier z found ran.passed.clean_end back

  -- an offset that lies in a clear place
  own : (o : ℕ) → Clear plain o → in_record (sealed_byte choice password salt) (record_at (walk plain).records o) o (get_or plain o 0) ≡ get_or plain o 0
  own o (within_record r e h) =
      ap (λ (q : Option BiffRecord). in_record (sealed_byte choice password salt) q o (get_or plain o 0)) e ∙ own_byte (sealed_byte choice password salt) r o (get_or plain o 0) h
  own o (in_padding h k) = ap (λ (q : Option BiffRecord). in_record (sealed_byte choice password salt) q o (get_or plain o 0)) (behind_records plain o h).0

  there : (o : ℕ) → Clear plain o → o < length plain
  there o (within_record r e h) = in_stream plain r o e
  there o (in_padding h k) = k

  clear_byte : (o : ℕ) → Clear plain o → blanked (zero_of plain) o ≡ false → get_or output₁ o 0 ≡ get_or plain o 0
  clear_byte o c b =
      let h = there o c in
      let l = length_sealed plain password choice salt verifier in
      ap (λ (w : List ℕ). get_or w o 0) ran.written
      ∙ get_or-append (sealed plain password choice salt verifier) (drop (length plain) output) 0 o (omega arith)
      ∙ sealed_at_lem plain password choice salt verifier o h
      ∙ old_byte plain password choice salt verifier ran.zero ran.found o (get_or plain o 0) (ap (λ (z : Option BiffRecord). blanked z o) (sym ran.found) ∙ b)
      ∙ own o c

pub alike_sealed : AlikeSealed
alike_sealed =
    record {
      alike = λ plain choice p q salt verifier salt' verifier' scratch output scratch' output' x y scratch₁ output₁ scratch₂ output₂ hs hv hs' hv' a b.
          let one = ran plain p choice salt verifier scratch output x scratch₁ output₁ hs hv a in (
            told plain p choice salt verifier scratch output x scratch₁ output₁ hs hv a one.zero one.found
                ∙ sym (told plain q choice salt' verifier' scratch' output' y scratch₂ output₂ hs' hv' b one.zero one.found),
            λ o c d. (
              clear_byte plain p choice salt verifier scratch output x scratch₁ output₁ hs hv a o c d,
              clear_byte plain q choice salt' verifier' scratch' output' y scratch₂ output₂ hs' hv' b o c d,
            ),
          );
    }

-- questions 1 to 31, as any password has them that passes the first two; and 32 behind them
abbrev earlier : (plain : List ℕ) → Choice → (scratch output : List ℕ) → Option Refusal
earlier plain choice scratch output = asked (lent scratch_need [] (length plain) (length scratch) (length output) ++ of_plain plain choice)

abbrev decided : Option Refusal → Bool → Option Refusal
decided = decided_by XorPasswordUnfit

all_asked : (plain p : List ℕ) (choice : Choice) (scratch output : List ℕ) → well_formed p ≡ true → length p ≤ 1024
    → asked (seal_questions plain p choice scratch output) ≡ decided (earlier plain choice scratch output) (takes choice p)
unfolding seal_questions
all_asked plain p choice scratch output u h =
    let lending = lent scratch_need [] (length plain) (length scratch) (length output) in
    ap (λ (qs : List Question). asked (qs ++ (of_plain plain choice ++ (ask (takes choice p) XorPasswordUnfit ∷ [])))) (same_lent p (length plain) (length scratch) (length output) h u)
    ∙ ap asked (sym (append_assoc lending (of_plain plain choice) (ask (takes choice p) XorPasswordUnfit ∷ [])))
    ∙ behind XorPasswordUnfit (lending ++ of_plain plain choice) (takes choice p)

-- no refusal of questions 1 to 31 is 32
not_32 : (plain : List ℕ) (choice : Choice) (scratch output : List ℕ) (r : Refusal) → earlier plain choice scratch output ≡ Some r → r ≡ XorPasswordUnfit → ⊥
unfolding lent of_plain in_order admitted zeroed
not_32 plain choice scratch output r e q = never (sym (by_choice choice e) ∙ ap (λ (t : Refusal). not (eqb (number t) 32)) q)
  where
    test : Refusal → Bool
    test t = not (eqb (number t) 32)

    lending : List Question
    lending = lent scratch_need [] (length plain) (length scratch) (length output)

    by_choice : (c : Choice) → asked (lending ++ of_plain plain c) ≡ Some r → not (eqb (number r) 32) ≡ true
    by_choice Xor e = given_passes test (lending ++ of_plain plain Xor) r refl e
    by_choice Office97 e = given_passes test (lending ++ of_plain plain Office97) r refl e
    by_choice (CryptoApi major bits) e = given_passes test (lending ++ of_plain plain (CryptoApi major bits)) r refl e

-- a run, by what they give
module _ (plain p : List ℕ) (choice : Choice) (salt verifier scratch output : List ℕ) (a : (Result Report Refusal)) (scratch₁ output₁ : List ℕ) (u : well_formed p ≡ true) (h : length p ≤ 1024)
    (run : Seals plain p choice salt verifier scratch output a scratch₁ output₁) where
  abbrev by : Option Refusal
  by = decided (earlier plain choice scratch output) (takes choice p)

  pub given_answer : a ≡ (outcome_by plain p choice salt verifier scratch output by).answer
  unfolding outcome
  given_answer = run.answered ∙ ap (λ (d : Option Refusal). (outcome_by plain p choice salt verifier scratch output d).answer) (all_asked plain p choice scratch output u h)

  pub given_scratch : scratch₁ ≡ (outcome_by plain p choice salt verifier scratch output by).scratch
  unfolding outcome
  given_scratch = run.scratch_left ∙ ap (λ (d : Option Refusal). (outcome_by plain p choice salt verifier scratch output d).scratch) (all_asked plain p choice scratch output u h)

  pub given_output : output₁ ≡ (outcome_by plain p choice salt verifier scratch output by).output
  unfolding outcome
  given_output = run.output_left ∙ ap (λ (d : Option Refusal). (outcome_by plain p choice salt verifier scratch output d).output) (all_asked plain p choice scratch output u h)

-- what the refusal, if there is one, tells of the answer
module _ (plain p : List ℕ) (choice : Choice) (salt verifier scratch output : List ℕ) (t : Bool) where
  abbrev out : Option Refusal → Bool → Outcome
  out c t = outcome_by plain p choice salt verifier scratch output (decided c t)

  refused_by : (c : Option Refusal) (r : Refusal) → (r ≡ XorPasswordUnfit → ⊥) → Err r ≡ (out c t).answer → c ≡ Some r
  unfolding pick
  refused_by None r n e = go t e
    where
      go : (t : Bool) → Err r ≡ (out None t).answer → None ≡ Some r
      go true e = cc
      go false e = absurd (n (cc))
  refused_by (Some q) r n e = cc

  sealed_by : (c : Option Refusal) (x : Report) → Ok x ≡ (out c t).answer → (c ≡ None) × (t ≡ true)
  unfolding pick
  sealed_by None x e = (refl, go t e)
    where
      go : (t : Bool) → Ok x ≡ (out None t).answer → t ≡ true
      go true e = refl
      go false e = cc
  sealed_by (Some q) x e = (cc, cc)

  last_by : (c : Option Refusal) → ((r : Refusal) → c ≡ Some r → r ≡ XorPasswordUnfit → ⊥) → Err XorPasswordUnfit ≡ (out c t).answer → t ≡ false
  unfolding pick
  last_by None n e = go t e
    where
      go : (t : Bool) → Err XorPasswordUnfit ≡ (out None t).answer → t ≡ false
      go true e = cc
      go false e = refl
  last_by (Some q) n e = absurd (n q refl (cc))

  scratch_by_lem : (c : Option Refusal) → (out c t).scratch ≡ (out c true).scratch
  unfolding pick
  scratch_by_lem None = go t
    where
      go : (t : Bool) → (out None t).scratch ≡ (out None true).scratch
      go true = refl
      go false = refl
  scratch_by_lem (Some q) = refl

  output_by : (c : Option Refusal) (r : Refusal) → Err r ≡ (out c t).answer → (out c t).output ≡ output
  unfolding pick
  output_by None r e = go t e
    where
      go : (t : Bool) → Err r ≡ (out None t).answer → (out None t).output ≡ output
      go true e = cc
      go false e = refl
  output_by (Some q) r e = refl

pub alike_refused : AlikeRefused
unfolding pick
alike_refused =
    record {
      two = λ plain choice p q salt verifier salt' verifier' scratch output a b scratch₁ output₁ scratch₂ output₂ u h v k one other.
          let c = earlier plain choice scratch output in
          let ea = given_answer plain p choice salt verifier scratch output a scratch₁ output₁ u h one in
          let eb = given_answer plain q choice salt' verifier' scratch output b scratch₂ output₂ v k other in
          let answer_q : Option Refusal → Bool → (Result Report Refusal) = λ d t. (outcome_by plain q choice salt' verifier' scratch output (decided d t)).answer in
          record {
            same_refusal = λ r n e. eb ∙ ap (λ (d : Option Refusal). answer_q d (takes choice q))
                (refused_by plain p choice salt verifier scratch output (takes choice p) c r n (sym e ∙ ea));
            unfit = λ e. last_by plain p choice salt verifier scratch output (takes choice p) c (λ r g. not_32 plain choice scratch output r g) (sym e ∙ ea);
            taken = λ x e. (sealed_by plain p choice salt verifier scratch output (takes choice p) c x (sym e ∙ ea)).1;
            seals_too = λ x e g.
                let d = (sealed_by plain p choice salt verifier scratch output (takes choice p) c x (sym e ∙ ea)).0 in
                (report (sealed plain q choice salt' verifier'), eb ∙ rw (d, g));
            refused_too = λ x e g.
                let d = (sealed_by plain p choice salt verifier scratch output (takes choice p) c x (sym e ∙ ea)).0 in
                eb ∙ rw (d, g);
            same_scratch = given_scratch plain p choice salt verifier scratch output a scratch₁ output₁ u h one
                ∙ scratch_by_lem plain p choice salt verifier scratch output (takes choice p) c
                ∙ same_wipe plain p q choice salt verifier salt' verifier' scratch output c
                ∙ sym (given_scratch plain q choice salt' verifier' scratch output b scratch₂ output₂ v k other
                ∙ scratch_by_lem plain q choice salt' verifier' scratch output (takes choice q) c);
            same_output = λ r t e g. (
              given_output plain p choice salt verifier scratch output a scratch₁ output₁ u h one
                  ∙ output_by plain p choice salt verifier scratch output (takes choice p) c r (sym e ∙ ea),
              given_output plain q choice salt' verifier' scratch output b scratch₂ output₂ v k other
                  ∙ output_by plain q choice salt' verifier' scratch output (takes choice q) c t (sym g ∙ eb),
            );
          };
    }
  where
    same_wipe : (plain p q : List ℕ) (choice : Choice) (salt verifier salt' verifier' scratch output : List ℕ) (c : Option Refusal)
        → (outcome_by plain p choice salt verifier scratch output (decided c true)).scratch ≡ (outcome_by plain q choice salt' verifier' scratch output (decided c true)).scratch
    same_wipe plain p q choice salt verifier salt' verifier' scratch output None = refl
    same_wipe plain p q choice salt verifier salt' verifier' scratch output (Some r) = refl

-- the numbers of the checks
pub seal_numbered : SealNumbered
unfolding seal_questions lent of_plain in_order admitted zeroed
seal_numbered = record { numbered = by_choice }
  where
    by_choice : (plain password : List ℕ) (choice : Choice) (scratch output : List ℕ) → numbers (seal_questions plain password choice scratch output) ≡ expected choice
    by_choice plain password Xor scratch output = refl
    by_choice plain password Office97 scratch output = refl
    by_choice plain password (CryptoApi major bits) scratch output = refl
