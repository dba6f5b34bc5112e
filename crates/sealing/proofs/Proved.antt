-- The two round trips over any runs: what one operation wrote passes the other's questions, and gives back the report and the stream.
-- Assumes nothing.
use Rattle.std.specs.Prelude.{Option, None, Some, Ok, Result, is_some}
use mathlib.Core.Path.{◌≡◌, refl, sym, ap, subst, ◌∙◌}
use mathlib.Core.Bool.{Bool, true, not}
use mathlib.Core.List.{List, [], ◌∷◌, ◌++◌}
use Prim.Native.Nat.{ℕ, ◌≤◌}
use native.Mathlib.Omega.{arith}
use lib.ListN.{length, take, drop, length-take, length-drop}
use lib.Seq.{take_at, drop_at}
use Rattle.laws.proofs.Choice.{taken}
use Rattle.sensitive.specs.Ansi.{ansi}
use Rattle.binary_office.specs.declared.BiffRecord.{BiffRecord}
use Rattle.binary_office.specs.Walk.{walk}
use Rattle.binary_office.proofs.Walks.{record_within}
use Rattle.file_params.specs.declared.Refusal.{Refusal}
use Rattle.file_params.specs.declared.Refusal.TheVariants.{WrongPassword, XorPasswordUnfit}
use Rattle.file_params.specs.Questions.{Question, scratch_need, ask, asked, lent, in_order, locked, book, lock, of_stream, questions, starts_bof, filepass, other_id, filepass_body, body_of, structure_of}
use Rattle.file_params.proofs.Laws.{past, asked_on, none_of_both, first_yes, rest_yes}
use Rattle.excel97.specs.declared.Report.{Report}
use Rattle.excel97.specs.Open.{xor_matches, rc4_matches, passes, plain, report, outcome_by, outcome_with, Opens}
use Rattle.excel97.proofs.Blanked.{never}
use Rattle.excel97.proofs.PlainBytes.{length_plain}
use Rattle.excel97.proofs.Settled.{HasOpened, has_opened}
use Rattle.survey.proofs.First.{in_order_lem}
use Rattle.survey.proofs.Records.{located}
use Rattle.survey.proofs.Told.{ends_clean}
use Rattle.sealing.specs.declared.Choice.{Choice}
use Rattle.sealing.specs.declared.Choice.TheVariants.{Xor, Office97, CryptoApi}
use Rattle.sealing.specs.Filepass.{characters, xor_body, filepass_for}
use Rattle.sealing.specs.Seal as seal
use Rattle.sealing.specs.Seal.{zero_of, admitted, fits, zeroed, takes, of_plain, seal_questions, sealed, outcome, Seals, len_of}
use Rattle.sealing.specs.Theorems.{Bytes, GivesBack, OpensAgain, SealsAgain}
use Rattle.sealing.proofs.Bodies.{ReadBack, read_back}
use Rattle.sealing.proofs.Sealed.{length_sealed, body_is, sealed_passes}
use Rattle.sealing.proofs.RoundTrips.{opened_again, walk_opened, zero_found, starts_opened, sealed_again}
use Rattle.sealing.proofs.Runs.{Lent, lent_told, lent_passed, HasSealed, has_sealed}

-- a list at the start of an output
module _ (whole output output' : List ℕ) (n : ℕ) (size : length whole ≡ n) (written : output' ≡ whole ++ drop n output) where
  at_start : take n output' ≡ whole
  at_start = rw written (take_at whole (drop n output) n size)

  behind : drop n output' ≡ drop n output
  behind = rw written (drop_at whole (drop n output) n size)

-- a question that is answered by a yes
last_yes : (t : Bool) (r : Refusal) → t ≡ true → None ≡ asked (ask t r ∷ [])
unfolding asked
last_yes t r e = past _ e refl

-- opening what was sealed
module _ (plain_stream password : List ℕ) (choice : Choice) (salt verifier scratch output : List ℕ) (told : Report) (scratch₁ output₁ : List ℕ) (bytes : Bytes plain_stream)
    (hs : length salt ≡ 16) (hv : length verifier ≡ 16) (run : Seals plain_stream password choice salt verifier scratch output (Ok told) scratch₁ output₁) where
  abbrev whole : List ℕ
  whole = sealed plain_stream password choice salt verifier

  ran : HasSealed plain_stream password choice salt verifier scratch output told output₁
  ran = has_sealed plain_stream password choice salt verifier scratch output told scratch₁ output₁ run

  size : length whole ≡ length plain_stream
  size = length_sealed plain_stream password choice salt verifier

  fitting : fits choice ran.zero.len ≡ true
  fitting = ap (λ (z : Option BiffRecord). fits choice (len_of z)) (sym ran.found) ∙ ran.passed.fitting

  back : ReadBack choice password salt ran.zero.len (filepass_for choice password salt verifier ran.zero.len)
  back = read_back password salt verifier hs hv choice ran.zero.len ran.passed.admits fitting ran.taken

  alone_passed : None ≡ asked (of_stream whole)
  alone_passed = sealed_passes plain_stream password choice salt verifier ran.zero ran.found ran.passed.clean_end back ran.passed.starts_bof_lem

  check_passed : passes (filepass_body whole) password ≡ true
  check_passed = ap (λ (b : List ℕ). passes b password) (body_is plain_stream password choice salt verifier ran.zero ran.found ran.passed.clean_end back) ∙ back.opens

  module _ (scratch₂ output₂ : List ℕ) (enough : scratch_need ≤ length scratch₂) (room : length plain_stream ≤ length output₂) where
    all_passed : None ≡ asked (questions scratch_need whole password scratch₂ output₂ (passes (filepass_body whole) password))
    unfolding questions
    all_passed =
        let l = size in
        let s = ran.lending.fits in
        let last = ask (passes (filepass_body whole) password) WrongPassword ∷ [] in
        sym (asked_on (lent scratch_need password (length whole) (length scratch₂) (length output₂)) (of_stream whole ++ last)
        (lent_passed password (length whole) (length scratch₂) (length output₂)
        (record { short = ran.lending.short; password_well_formed = ran.lending.password_well_formed; enough = enough; fits = omega arith; room = omega arith }))
        ∙ asked_on (of_stream whole) last alone_passed
        ∙ sym (last_yes (passes (filepass_body whole) password) WrongPassword check_passed))

    module _ (answer : (Result Report Refusal)) (scratch₃ output₃ : List ℕ) (opens : Opens whole password scratch₂ output₂ answer scratch₃ output₃) where
      answered : answer ≡ Ok (report whole)
      unfolding outcome_with
      answered = opens.answered ∙ ap (λ (d : Option Refusal). (outcome_by scratch_need whole password scratch₂ output₂ d).answer) (sym all_passed)

      written : output₃ ≡ plain_stream ++ drop (length plain_stream) output₂
      unfolding outcome_with
      written =
          opens.output_left ∙ ap (λ (d : Option Refusal). (outcome_by scratch_need whole password scratch₂ output₂ d).output) (sym all_passed)
          ∙ rw (size, opened_again plain_stream password choice salt verifier ran.zero ran.found ran.passed.clean_end back bytes)

      given_back : (x : Report) × (answer ≡ Ok x) × GivesBack x told plain_stream output₂ output₃
      given_back = (
        report whole,
        answered,
        record {
          report_told = sym ran.told;
          stream_back = at_start plain_stream output₂ output₃ (length plain_stream) refl written;
          rest_kept = behind plain_stream output₂ output₃ (length plain_stream) refl written;
        },
      )

pub opens_again : OpensAgain
opens_again =
    record {
      opens = λ plain_stream password choice salt verifier scratch output told scratch₁ output₁ bytes hs hv run scratch₂ output₂ answer scratch₃ output₃ enough room opens.
          let whole = sealed plain_stream password choice salt verifier in
          let r = has_sealed plain_stream password choice salt verifier scratch output told scratch₁ output₁ run in
          let start : take (length plain_stream) output₁ ≡ whole =
          at_start whole output output₁ (length plain_stream) (length_sealed plain_stream password choice salt verifier) r.written in
          given_back plain_stream password choice salt verifier scratch output told scratch₁ output₁ bytes hs hv run scratch₂ output₂ enough room answer scratch₃ output₃
          (subst (λ (s : List ℕ). Opens s password scratch₂ output₂ answer scratch₃ output₃) start opens);
    }

-- questions 30 and 31, of a zero record of a length that fits
zero_passed : (choice : Choice) (z : BiffRecord) → fits choice z.len ≡ true → None ≡ asked (zeroed choice (Some z))
unfolding asked zeroed
zero_passed choice z e = past _ refl (past _ e refl)

-- a run that opened a stream
module _ (stream password scratch output : List ℕ) (told : Report) (scratch₁ output₁ : List ℕ) (run : Opens stream password scratch output (Ok told) scratch₁ output₁) where
  none_given : (d : Option Refusal) → Ok told ≡ (outcome_by scratch_need stream password scratch output d).answer → d ≡ None
  none_given None e = refl
  none_given (Some r) e = cc

  abbrev last_asked : List Question
  last_asked = ask (passes (filepass_body stream) password) WrongPassword ∷ []

  all_asked : asked (lent scratch_need password (length stream) (length scratch) (length output) ++ (of_stream stream ++ last_asked)) ≡ None
  unfolding outcome_with questions
  all_asked = none_given (asked (questions scratch_need stream password scratch output (passes (filepass_body stream) password))) run.answered

  lent_first : Lent password (length stream) (length scratch) (length output)
  lent_first =
      let lending = lent scratch_need password (length stream) (length scratch) (length output) in
      lent_told password (length stream) (length scratch) (length output) (none_of_both lending (of_stream stream ++ last_asked) all_asked).0

  rest_asked : (asked (of_stream stream) ≡ None) × (asked last_asked ≡ None)
  rest_asked =
      let lending = lent scratch_need password (length stream) (length scratch) (length output) in
      none_of_both (of_stream stream) last_asked (none_of_both lending (of_stream stream ++ last_asked) all_asked).1

  checked : passes (filepass_body stream) password ≡ true
  checked = first_yes _ [] rest_asked.1

  opened_run : HasOpened stream password output told output₁
  opened_run = has_opened stream password scratch output told scratch₁ output₁ run

  clean : (walk stream).fault ≡ None
  clean = ends_clean stream (sym rest_asked.0)

  -- BOF, FILEPASS, and no other id before it
  booked : asked (book stream) ≡ None
  unfolding of_stream
  booked = (none_of_both (book stream) (lock (filepass_body stream)) rest_asked.0).0

  starts : starts_bof (walk stream).records ≡ true
  unfolding book in_order locked
  starts = first_yes _ (drop 2 (book stream)) (rest_yes _ (drop 1 (book stream)) booked)

  some_first : (o : Option BiffRecord) → is_some o ≡ true → (f : BiffRecord) × (o ≡ Some f)
  some_first None e = absurd (never (sym e))
  some_first (Some f) e = (f, refl)

  found : (f : BiffRecord) × (filepass (walk stream).records ≡ Some f)
  unfolding book in_order locked
  found =
      some_first (filepass (walk stream).records)
      (first_yes _ (drop 3 (book stream)) (rest_yes _ (drop 2 (book stream)) (rest_yes _ (drop 1 (book stream)) booked)))

  none_other : (o : Option ℕ) → not (is_some o) ≡ true → o ≡ None
  none_other None e = refl
  none_other (Some i) e = absurd (never (sym e))

  others : other_id (walk stream).records ≡ None
  unfolding book in_order locked
  others =
      none_other (other_id (walk stream).records)
      (first_yes _ [] (rest_yes _ (drop 3 (book stream)) (rest_yes _ (drop 2 (book stream)) (rest_yes _ (drop 1 (book stream)) booked))))

  -- a choice takes the password that opens what it writes
  takes_it : (choice : Choice) (salt verifier : List ℕ) (len : ℕ) → passes (filepass_for choice password salt verifier len) password ≡ true → takes choice password ≡ true
  unfolding passes xor_body
  takes_it Xor salt verifier len e = by_ansi (ansi password) (sym (taken (xor_matches body (ansi password)) (rc4_matches (structure_of body) password) refl) ∙ e)
    where
      body : List ℕ
      body = xor_body (characters (ansi password))

      by_ansi : (o : Option (List ℕ)) → xor_matches body o ≡ true → is_some o ≡ true
      by_ansi None e = absurd (never (sym e))
      by_ansi (Some p) e = refl
  takes_it Office97 salt verifier len e = refl
  takes_it (CryptoApi major bits) salt verifier len e = refl

  module _ (bytes : Bytes stream) (choice : Choice) (salt verifier : List ℕ) (hs : length salt ≡ 16) (hv : length verifier ≡ 16) (admits : asked (admitted choice) ≡ None)
      (fitting : fits choice (length (filepass_body stream)) ≡ true)
      (as_written : filepass_body stream ≡ filepass_for choice password salt verifier (length (filepass_body stream))) where
    abbrev opened : List ℕ
    opened = plain stream password

    body_length : length (filepass_body stream) ≡ found.0.len
    unfolding filepass_body
    body_length =
        let m = record_within stream found.0.at 0x002F found.0.len (located stream 0 (omega arith) found.0 found.1).stands in
        ap (λ (o : Option BiffRecord). length (body_of stream o)) found.1 ∙ simp (length-take, length-drop) (omega arith)

    written_there : filepass_body stream ≡ filepass_for choice password salt verifier found.0.len
    written_there = as_written ∙ ap (filepass_for choice password salt verifier) body_length

    fits_there : fits choice found.0.len ≡ true
    fits_there = ap (fits choice) (sym body_length) ∙ fitting

    takes_password : takes choice password ≡ true
    takes_password = takes_it choice salt verifier found.0.len (ap (λ (b : List ℕ). passes b password) (sym written_there) ∙ checked)

    back_again : ReadBack choice password salt found.0.len (filepass_for choice password salt verifier found.0.len)
    back_again = read_back password salt verifier hs hv choice found.0.len admits fits_there takes_password

    same_stream : sealed opened password choice salt verifier ≡ stream
    same_stream = sealed_again stream password choice salt verifier found.0 found.1 others clean bytes written_there back_again

    zero_there : zero_of opened ≡ Some (record { at = found.0.at; id = 0; len = found.0.len })
    zero_there = zero_found stream password choice salt verifier found.0 found.1 others clean bytes written_there back_again

    plain_passed : None ≡ asked (of_plain opened choice)
    unfolding of_plain
    plain_passed =
        let walked = walk_opened stream password choice salt verifier found.0 found.1 others clean bytes written_there back_again in
        let first = in_order (walk opened).fault (walk opened).records in
        let rest = zeroed choice (zero_of opened) in
        sym (asked_on first (admitted choice ++ rest)
        (in_order_lem (walk opened).fault (walk opened).records (walked.1 ∙ clean)
        (starts_opened stream password choice salt verifier found.0 found.1 others clean bytes written_there back_again starts))
        ∙ asked_on (admitted choice) rest (sym admits)
        ∙ ap (λ (z : Option BiffRecord). asked (zeroed choice z)) zero_there
        ∙ sym (zero_passed choice (record { at = found.0.at; id = 0; len = found.0.len }) fits_there))

    module _ (scratch₂ output₂ : List ℕ) (enough : scratch_need ≤ length scratch₂) (room : length stream ≤ length output₂) where
      seal_passed : None ≡ asked (seal_questions opened password choice scratch₂ output₂)
      unfolding seal_questions
      seal_passed =
          let l = length_plain stream password in
          let s = lent_first.fits in
          let last = ask (takes choice password) XorPasswordUnfit ∷ [] in
          sym (asked_on (lent scratch_need password (length opened) (length scratch₂) (length output₂)) (of_plain opened choice ++ last)
          (lent_passed password (length opened) (length scratch₂) (length output₂)
          (record { short = lent_first.short; password_well_formed = lent_first.password_well_formed; enough = enough; fits = omega arith; room = omega arith }))
          ∙ asked_on (of_plain opened choice) last plain_passed
          ∙ sym (last_yes (takes choice password) XorPasswordUnfit takes_password))

      module _ (answer : (Result Report Refusal)) (scratch₃ output₃ : List ℕ) (seals : Seals opened password choice salt verifier scratch₂ output₂ answer scratch₃ output₃) where
        sealed_answer : answer ≡ Ok (report stream)
        unfolding outcome
        sealed_answer =
            seals.answered ∙ ap (λ (d : Option Refusal). (seal.outcome_by opened password choice salt verifier scratch₂ output₂ d).answer) (sym seal_passed)
            ∙ ap (λ (s : List ℕ). Ok (report s)) same_stream

        sealed_output : output₃ ≡ stream ++ drop (length stream) output₂
        unfolding outcome
        sealed_output =
            seals.output_left ∙ ap (λ (d : Option Refusal). (seal.outcome_by opened password choice salt verifier scratch₂ output₂ d).output) (sym seal_passed)
            ∙ rw (same_stream, length_plain stream password)

        sealed_back : (x : Report) × (answer ≡ Ok x) × GivesBack x told stream output₂ output₃
        sealed_back = (
          report stream,
          sealed_answer,
          record {
            report_told = sym opened_run.told;
            stream_back = at_start stream output₂ output₃ (length stream) refl sealed_output;
            rest_kept = behind stream output₂ output₃ (length stream) refl sealed_output;
          },
        )

pub seals_again : SealsAgain
seals_again =
    record {
      seals = λ stream password scratch output told scratch₁ output₁ bytes run choice salt verifier hs hv admits fitting as_written scratch₂ output₂ answer scratch₃ output₃ enough room seals.
          let opened = plain stream password in
          let r = opened_run stream password scratch output told scratch₁ output₁ run in
          let start : take (length stream) output₁ ≡ opened = at_start opened output output₁ (length stream) (length_plain stream password) r.written in
          sealed_back stream password scratch output told scratch₁ output₁ run bytes choice salt verifier hs hv admits fitting as_written scratch₂ output₂ enough room answer scratch₃ output₃
          (subst (λ (s : List ℕ). Seals s password choice salt verifier scratch₂ output₂ answer scratch₃ output₃) start seals);
    }
