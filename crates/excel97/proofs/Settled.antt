-- What the questions that were passed tell of a stream, and how its refusals and its reports settle the outcome.
-- Assumes nothing.
use Rattle.std.specs.Prelude.{Option, None, Some, Ok, Err, Result}
use mathlib.Core.Path.{◌≡◌, refl, sym, ap, ◌∙◌}
use mathlib.Core.Bool.{Bool, true, false}
use mathlib.Core.List.{List, [], ◌∷◌, ◌++◌}
use Prim.Native.Nat.{ℕ, ◌+◌, ◌≤◌}
use native.Mathlib.Omega.{arith}
use borrow.Author.Tests.{eq-eqb, le-leb, lt-leb, leb-true}
use lib.Dec.{eqb, leb}
use lib.ListN.{length, drop, replicate, length-append, length-drop, length-replicate}
use Rattle.laws.specs.Choice.{pick}
use Rattle.laws.proofs.Choice.{taken, left, stop}
use Rattle.sensitive.specs.Utf8.{well_formed}
use Rattle.binary_office.specs.Walk.{walk}
use Rattle.file_params.specs.declared.Refusal.{Refusal}
use Rattle.file_params.specs.declared.Refusal.TheVariants.{WrongPassword}
use Rattle.file_params.specs.Questions.{scratch_need, ask, asked, lent, lock, of_stream, questions, filepass_body, type_of, structure_of}
use Rattle.file_params.specs.Refusal.{number}
use Rattle.file_params.proofs.Laws.{asked_on, asked_stop, none_of_both, first_yes, rest_yes}
use Rattle.file_params.proofs.Tables.{given_passes}
use Rattle.block_keys.specs.declared.Rc4Lock.{Rc4Lock}
use Rattle.block_keys.specs.BlockKeys.{started_blocks}
use Rattle.block_keys.specs.Lock.{lock_of}
use Rattle.survey.specs.declared.Book.{Book}
use Rattle.survey.specs.declared.Scheme.TheVariants as scheme
use Rattle.survey.specs.Survey.{enciphered_bytes, block_keys, scheme_by, book_of}
use Rattle.survey.proofs.Asked.{body_inside}
use Rattle.survey.proofs.Locked.{xor_type, rc4_type}
use Rattle.survey.proofs.Told.{ends_clean, placed}
use Rattle.excel97.specs.declared.Report.{Report}
use Rattle.excel97.specs.Open.{passes, plain, report, xor_report, rc4_report, wiped, outcome_by, outcome_with, Opens}
use Rattle.excel97.specs.Steps.{Unlocks, Ready, later_refusal, Settles}
use Rattle.excel97.proofs.Answers.{later_number, Ran, opening}

-- a stream that was surveyed is ready to be opened
pub ready : (s output : List ℕ) (b : Book) → None ≡ asked (of_stream s) → b ≡ book_of s → length s ≤ length output → Ready s output b.filepass
unfolding book_of
ready s output b e eb room =
    rw eb (record { clean = ends_clean s e; found = placed s e; inside = body_inside s _ (placed s e); room = room })

-- the reports, by the lock that was surveyed
module _ (s : List ℕ) (b : Book) (eb : b ≡ book_of s) where
  lock_is : b.scheme ≡ scheme_by (filepass_body s)
  unfolding book_of
  lock_is = ap (λ (c : Book). c.scheme) eb

  records_are : b.records ≡ length (walk s).records
  unfolding book_of
  records_are = ap (λ (c : Book). c.records) eb

  enciphered_are : b.enciphered ≡ enciphered_bytes (walk s).records
  unfolding book_of
  enciphered_are = ap (λ (c : Book). c.enciphered) eb

  pub xor_found : b.scheme ≡ scheme.Xor → type_of (filepass_body s) ≡ 0
  xor_found e = xor_type (filepass_body s) (sym lock_is ∙ e)

  pub rc4_found : None ≡ asked (lock (filepass_body s)) → (l : Rc4Lock) → b.scheme ≡ scheme.Rc4 l
      → (type_of (filepass_body s) ≡ 1) × (l ≡ lock_of (structure_of (filepass_body s)))
  rc4_found p l e = rc4_type (filepass_body s) p l (sym lock_is ∙ e)

  pub xor_reported : type_of (filepass_body s) ≡ 0 → xor_report b.records (length s) b.enciphered 0 ≡ report s
  unfolding report block_keys
  xor_reported z =
      let t = eq-eqb (type_of (filepass_body s)) 0 z in
      rw (records_are, enciphered_are, taken 0 (1 + started_blocks 1024 (length s)) t, taken xor_report (rc4_report (structure_of (filepass_body s))) t)

  pub rc4_reported : type_of (filepass_body s) ≡ 1
      → rc4_report (structure_of (filepass_body s)) b.records (length s) b.enciphered (block_keys (filepass_body s) (length s)) ≡ report s
  unfolding report
  rc4_reported z =
      let t : eqb (type_of (filepass_body s)) 0 ≡ false = rw z refl in
      rw (records_are, enciphered_are, left xor_report (rc4_report (structure_of (filepass_body s))) t)

-- the scratch after its first 64 bytes were used
pub same_size_lem : (w : List ℕ) → 64 ≤ length w → length (replicate 64 0 ++ drop 64 w) ≡ length w
same_size_lem w h = length-append (replicate 64 0) (drop 64 w) ∙ simp (length-replicate, length-drop) (omega arith)

-- refused: nothing is touched
module _ (s p w o : List ℕ) where
  settled_by : (d : Option Refusal) (r : Refusal) → Some r ≡ d
      → (Err r ≡ (outcome_by scratch_need s p w o d).answer) × (o ≡ (outcome_by scratch_need s p w o d).output)
  settled_by None r e = (cc, cc)
  settled_by (Some q) r e = (let z : r ≡ q = cc in ap Err z, refl)

  pub refused_alone : (r : Refusal) → Some r ≡ asked (of_stream s) → Settles s p w o (Err r) w o
  refused_alone r e =
      let g = settled_by (later_refusal s p) r (asked_stop (of_stream s) (ask (passes (filepass_body s) p) WrongPassword ∷ []) r e) in
      record { answered = g.0; same = refl; kept = refl; output_left = g.1 }

  -- tried: the check alone is left
  module _ (e : None ≡ asked (of_stream s)) where
    check_left : later_refusal s p ≡ pick (passes (filepass_body s) p) None (Some WrongPassword)
    unfolding asked
    check_left = asked_on (of_stream s) (ask (passes (filepass_body s) p) WrongPassword ∷ []) e

    -- refused by the check, or opened with the report
    module _ {A : Type 0} (told : A) (w' o' : List ℕ) (h : length w' ≡ length w) (k : drop 64 w' ≡ drop 64 w) where
      pub tried_no : (r : Refusal) → Unlocks s p o told (Err r) o' → Settles s p w o (Err r) w' o'
      unfolding pick
      tried_no r u = go (passes (filepass_body s) p) u.answered u.left check_left
        where
          go : (t : Bool) → Err r ≡ pick t (Ok told) (Err WrongPassword) → o' ≡ pick t (plain s p ++ drop (length s) o) o → later_refusal s p ≡ pick t None (Some WrongPassword)
              → Settles s p w o (Err r) w' o'
          go true e g c = cc
          go false e g c = let z : r ≡ WrongPassword = cc in record { answered = rw (c, z); same = h; kept = k; output_left = g ∙ rw c }

      pub tried_yes : (y : A) (x : Report) → Unlocks s p o told (Ok y) o' → (y ≡ told → x ≡ report s) → Settles s p w o (Ok x) w' o'
      unfolding pick
      tried_yes y x u ex = go (passes (filepass_body s) p) u.answered u.left check_left
        where
          go : (t : Bool) → Ok y ≡ pick t (Ok told) (Err WrongPassword) → o' ≡ pick t (plain s p ++ drop (length s) o) o → later_refusal s p ≡ pick t None (Some WrongPassword)
              → Settles s p w o (Ok x) w' o'
          go true e g c = let z : y ≡ told = cc in record { answered = rw (c, ex z); same = h; kept = k; output_left = g ∙ rw c }
          go false e g c = cc

-- the whole
module _ (s p w o : List ℕ) where
  abbrev all : Option Refusal
  all = asked (questions scratch_need s p w o (passes (filepass_body s) p))

  pub refused_lent : (r : Refusal) → Some r ≡ asked (lent scratch_need p (length s) (length w) (length o)) → Opens s p w o (Err r) w o
  unfolding outcome_with questions lent
  refused_lent r e =
      let g = asked_stop (lent scratch_need p (length s) (length w) (length o)) (of_stream s ++ (ask (passes (filepass_body s) p) WrongPassword ∷ [])) r e in
      let n = given_passes (λ (q : Refusal). leb (number q) 5) (lent scratch_need p (length s) (length w) (length o)) r refl (sym e) in
      record {
        answered = ap (λ (d : Option Refusal). (outcome_by scratch_need s p w o d).answer) g;
        scratch_left = stop (wiped scratch_need w) n ∙ ap (λ (d : Option Refusal). (outcome_by scratch_need s p w o d).scratch) g;
        output_left = ap (λ (d : Option Refusal). (outcome_by scratch_need s p w o d).output) g;
      }

  module _ (e : None ≡ asked (lent scratch_need p (length s) (length w) (length o))) where
    all_later : all ≡ later_refusal s p
    unfolding questions
    all_later = asked_on (lent scratch_need p (length s) (length w) (length o)) (of_stream s ++ (ask (passes (filepass_body s) p) WrongPassword ∷ [])) e

    -- the scratch is wiped at the end, whatever was settled
    by_outcome : (d : Option Refusal) → ((r : Refusal) → d ≡ Some r → 6 ≤ number r) → (outcome_by scratch_need s p w o d).scratch ≡ wiped scratch_need w
    by_outcome None f = refl
    by_outcome (Some r) f = left w (wiped scratch_need w) (lt-leb (number r) 5 (f r refl))

    -- n bytes were wiped, and as many are wanted
    pub settled_all : (n : ℕ) (a : (Result Report Refusal)) (w₁ w₂ o₁ : List ℕ) → Settles s p w o a w₁ o₁ → 64 ≤ length w₁
        → w₂ ≡ pick (leb n (length w₁)) (replicate n 0 ++ drop n w₁) w₁ → n ≡ scratch_need → Opens s p w o a w₂ o₁
    unfolding outcome_with
    settled_all n a w₁ w₂ o₁ t h g en =
        record {
          answered = t.answered ∙ rw (← all_later) refl;
          scratch_left = rw en at g ∙ taken (replicate 64 0 ++ drop 64 w₁) w₁ (le-leb 64 (length w₁) h) ∙ ap (λ (l : List ℕ). replicate 64 0 ++ l) t.kept
              ∙ sym (ap (λ (d : Option Refusal). (outcome_by scratch_need s p w o d).scratch) all_later ∙ by_outcome (later_refusal s p)
              (λ r q. later_number s (passes (filepass_body s) p) r q));
          output_left = t.output_left ∙ rw (← all_later) refl;
        }

-- what the questions of what is lent tell
pub lent_tells : (p : List ℕ) (stream scratch output : ℕ) → None ≡ asked (lent scratch_need p stream scratch output)
    → (stream ≤ 1073741824) × (well_formed p ≡ true) × (64 ≤ scratch) × (stream ≤ output)
unfolding lent
lent_tells p stream scratch output e =
    let q = lent scratch_need p stream scratch output in
    let a : asked (drop 1 q) ≡ None = rest_yes _ (drop 1 q) (sym e) in
    let b : asked (drop 2 q) ≡ None = rest_yes _ (drop 2 q) a in
    let c : asked (drop 3 q) ≡ None = rest_yes _ (drop 3 q) b in
    let d : asked (drop 4 q) ≡ None = rest_yes _ (drop 4 q) c in (
      leb-true stream 1073741824 (first_yes _ (drop 4 q) c),
      first_yes _ (drop 2 q) a,
      leb-true 64 scratch (first_yes _ (drop 3 q) b),
      leb-true stream output (first_yes _ [] d),
    )

-- a run that opened a stream, whatever was lent: question 4 and those of the stream alone are passed, and the report and the output are those of the definition
pub record HasOpened (stream p output : List ℕ) (x : Report) (output₁ : List ℕ) : Type 0 where
  pub fits : length stream ≤ 1073741824
  pub alone : None ≡ asked (of_stream stream)
  pub told : x ≡ report stream
  pub written : output₁ ≡ plain stream p ++ drop (length stream) output

pub has_opened : (stream p scratch output : List ℕ) (x : Report) (scratch₁ output₁ : List ℕ) → Opens stream p scratch output (Ok x) scratch₁ output₁
    → HasOpened stream p output x output₁
unfolding outcome_with questions
has_opened stream p scratch output x scratch₁ output₁ run =
    let lending = lent scratch_need p (length stream) (length scratch) (length output) in
    let last = ask (passes (filepass_body stream) p) WrongPassword ∷ [] in
    let all = asked (lending ++ (of_stream stream ++ last)) in
    let this : Ran scratch_need stream p scratch output all (Ok x) scratch₁ output₁ =
    record { answered = run.answered; scratch_left = run.scratch_left; output_left = run.output_left } in
    let o = opening stream p scratch output (Ok x) scratch₁ output₁ all this x refl in
    let passed = none_of_both lending (of_stream stream ++ last) o.given in
    record {
      fits = (lent_tells p (length stream) (length scratch) (length output) (sym passed.0)).0;
      alone = sym (none_of_both (of_stream stream) last passed.1).0;
      told = o.told;
      written = o.written;
    }
