-- The answer of one run. Questions 1 to 26 are the same for every password that passes the first two, and none of them refuses as question 27 does;
-- so the run is told by what those questions give, and by the check.
-- Assumes nothing.
use Rattle.std.specs.Prelude.{Option, None, Some, Ok, Err, Result}
use mathlib.Core.Path.{◌≡◌, refl, sym, ap, ◌∙◌}
use mathlib.Core.Bool.{Bool, true, false}
use mathlib.Core.List.{List, [], ◌∷◌, ◌++◌, append_assoc}
use Prim.Native.Nat.{ℕ, ◌≤◌}
use borrow.Author.Tests.{le-leb, leb-true}
use lib.Dec.{leb}
use lib.ListN.{length, drop}
use Rattle.laws.specs.Choice.{pick}
use Rattle.sensitive.specs.Utf8.{well_formed, points, points_from, char_at}
use Rattle.file_params.specs.declared.Refusal.{Refusal}
use Rattle.file_params.specs.declared.Refusal.TheVariants.{WrongPassword}
use Rattle.file_params.specs.Refusal.{number}
use Rattle.file_params.specs.Questions.{Question, scratch_need, ask, asked, lent, of_stream, questions, filepass_body}
use Rattle.file_params.proofs.Laws.{asked_on, asked_stop, from_either, none_of_both}
use Rattle.file_params.proofs.Tables.{given_passes, stream_number}
use Rattle.excel97.specs.declared.Report.{Report}
use Rattle.excel97.specs.Open.{passes, plain, report, wiped, outcome_by, outcome_with, Opens}

-- questions 1 to 26, as the empty password has them
abbrev pub earlier : (stream scratch output : List ℕ) → List Question
earlier stream scratch output = lent scratch_need [] (length stream) (length scratch) (length output) ++ of_stream stream

pub empty_fine : well_formed [] ≡ true
unfolding well_formed points points_from char_at pick
empty_fine = refl

pub same_lent : (p : List ℕ) (a b c : ℕ) → length p ≤ 1024 → well_formed p ≡ true → lent scratch_need p a b c ≡ lent scratch_need [] a b c
unfolding lent
same_lent p a b c h e = rw (le-leb (length p) 1024 h, e, empty_fine)

-- what they give, and one question behind them, whose "no" gives w
abbrev pub decided_by : (w : Refusal) → Option Refusal → Bool → Option Refusal
decided_by w None t = pick t None (Some w)
decided_by w (Some r) t = Some r

pub behind : (w : Refusal) (qs : List Question) (t : Bool) → asked (qs ++ (ask t w ∷ [])) ≡ decided_by w (asked qs) t
unfolding asked
behind w qs t = go (asked qs) refl
  where
    go : (o : Option Refusal) → o ≡ asked qs → asked (qs ++ (ask t w ∷ [])) ≡ decided_by w o t
    go None e = asked_on qs (ask t w ∷ []) e
    go (Some r) e = sym (asked_stop qs (ask t w ∷ []) r e)

-- question 27 behind them
abbrev pub decided : Option Refusal → Bool → Option Refusal
decided = decided_by WrongPassword

all_asked : (stream p scratch output : List ℕ) (t : Bool) → length p ≤ 1024 → well_formed p ≡ true
    → asked (questions scratch_need stream p scratch output t) ≡ decided (asked (earlier stream scratch output)) t
unfolding questions
all_asked stream p scratch output t h e =
    rw (same_lent p (length stream) (length scratch) (length output) h e)
    (ap asked (simp append_assoc) ∙ behind WrongPassword (earlier stream scratch output) t)

-- numbers up to 26, and from 6 on
pub earlier_number : (stream scratch output : List ℕ) (r : Refusal) → asked (earlier stream scratch output) ≡ Some r → number r ≤ 26
unfolding lent
earlier_number stream scratch output r e =
    let asked_first = lent scratch_need [] (length stream) (length scratch) (length output) in
    from_either asked_first (of_stream stream) r (number r ≤ 26)
    (λ g. leb-true (number r) 26 (given_passes (λ (q : Refusal). leb (number q) 26) asked_first r refl g))
    (λ g. (stream_number stream r g).1)
    e

pub later_number : (stream : List ℕ) (t : Bool) (r : Refusal) → asked (of_stream stream ++ (ask t WrongPassword ∷ [])) ≡ Some r → 6 ≤ number r
later_number stream t r e =
    from_either (of_stream stream) (ask t WrongPassword ∷ []) r (6 ≤ number r)
    (λ g. (stream_number stream r g).0)
    (λ g. leb-true 6 (number r) (given_passes (λ (q : Refusal). leb 6 (number q)) (ask t WrongPassword ∷ []) r refl g))
    e

-- a run, by the refusal that the questions give, where a scratch of `need` bytes is wanted
pub record Ran (need : ℕ) (stream p scratch output : List ℕ) (d : Option Refusal) (a : (Result Report Refusal)) (scratch₁ output₁ : List ℕ) : Type 0 where
  pub answered : a ≡ (outcome_by need stream p scratch output d).answer
  pub scratch_left : scratch₁ ≡ (outcome_by need stream p scratch output d).scratch
  pub output_left : output₁ ≡ (outcome_by need stream p scratch output d).output

module _ (stream p scratch output : List ℕ) (a : (Result Report Refusal)) (scratch₁ output₁ : List ℕ) where
  pub ran : length p ≤ 1024 → well_formed p ≡ true → Opens stream p scratch output a scratch₁ output₁
      → Ran scratch_need stream p scratch output (decided (asked (earlier stream scratch output)) (passes (filepass_body stream) p)) a scratch₁ output₁
  unfolding outcome_with
  ran h e o =
      let g = all_asked stream p scratch output (passes (filepass_body stream) p) h e in
      record { answered = rw g at o.answered; scratch_left = rw g at o.scratch_left; output_left = rw g at o.output_left }

  -- one that is refused
  pub record Refusing (d : Option Refusal) (r : Refusal) : Type 0 where
    pub given : d ≡ Some r
    pub untouched : output₁ ≡ output

  pub refusing : (d : Option Refusal) → Ran scratch_need stream p scratch output d a scratch₁ output₁ → (r : Refusal) → a ≡ Err r → Refusing d r
  refusing None w r e = let g = w.answered in record { given = cc; untouched = cc }
  refusing (Some q) w r e = let g = w.answered in record { given = cc; untouched = w.output_left }

  -- one that opens the stream
  pub record Opening (d : Option Refusal) (x : Report) : Type 0 where
    pub given : d ≡ None
    pub told : x ≡ report stream
    pub written : output₁ ≡ plain stream p ++ drop (length stream) output

  pub opening : (d : Option Refusal) → Ran scratch_need stream p scratch output d a scratch₁ output₁ → (x : Report) → a ≡ Ok x → Opening d x
  opening None w x e = let g = w.answered in record { given = refl; told = cc; written = w.output_left }
  opening (Some q) w x e = let g = w.answered in record { given = cc; told = cc; written = cc }

-- the scratch does not depend on the check
abbrev pub scratch_by : List ℕ → Option Refusal → List ℕ
scratch_by scratch None = wiped scratch_need scratch
scratch_by scratch (Some r) = pick (leb (number r) 5) scratch (wiped scratch_need scratch)

pub scratch_by_lem : (stream p scratch output : List ℕ) (c : Option Refusal) (t : Bool)
    → (outcome_by scratch_need stream p scratch output (decided c t)).scratch ≡ scratch_by scratch c
unfolding pick
scratch_by_lem stream p scratch output None true = refl
scratch_by_lem stream p scratch output None false = refl
scratch_by_lem stream p scratch output (Some r) t = refl

-- a refusal other than 27 is an earlier question's
pub not_last : (c : Option Refusal) (t : Bool) (r : Refusal) → (r ≡ WrongPassword → ⊥) → decided c t ≡ Some r → c ≡ Some r
unfolding pick
not_last None true r f e = cc
not_last None false r f e = absurd (f (cc))
not_last (Some q) t r f e = e

-- no refusal
pub none_earlier : (c : Option Refusal) (t : Bool) → decided c t ≡ None → c ≡ None
none_earlier None t e = refl
none_earlier (Some q) t e = e

-- past the earlier questions, those of the stream alone are passed
pub alone_passed : (stream scratch output : List ℕ) → asked (earlier stream scratch output) ≡ None → None ≡ asked (of_stream stream)
alone_passed stream scratch output e = sym (none_of_both (lent scratch_need [] (length stream) (length scratch) (length output)) (of_stream stream) e).1
