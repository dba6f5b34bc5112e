-- Two books with the same lock take the same passwords. A FILEPASS body that ends within the bytes that Same lock reads is compared whole; so the other's body begins
-- with it, and the check of the one is that of the other.
-- Assumes nothing.
use Rattle.std.specs.Prelude.{Option, None, Some, Ok, Err, Result}
use mathlib.Core.Path.{◌≡◌, refl, sym, ap, ◌∙◌}
use mathlib.Core.Bool.{Bool, true, false}
use mathlib.Core.List.{List, [], ◌∷◌, ◌++◌}
use mathlib.Core.Logic.{inl, inr}
use Prim.Native.Nat.{ℕ, ◌+◌, ◌-◌, ◌≤◌, min}
use native.Mathlib.Omega.{arith}
use borrow.Author.Tests.{leb-true}
use lib.Dec.{leb}
use lib.ListN.{length, get_or, take, drop, length-take}
use lib.Seq.{get_or-take, take_all}
use Rattle.laws.specs.Choice.{pick}
use Rattle.laws.proofs.Choice.{either}
use Rattle.binary_office.specs.declared.Finding.TheVariants.{Filepass, Unreadable}
use Rattle.binary_office.specs.declared.BiffRecord.{BiffRecord}
use Rattle.binary_office.specs.Walk.{walk}
use Rattle.binary_office.specs.SameLock.{capped_body, same_lock}
use Rattle.binary_office.proofs.Locks.{part_cut}
use Rattle.binary_office.proofs.Bodies.{impossible}
use Rattle.binary_office.proofs.SameLock.{body_found_lem, shared_body, first_none, unreadable_none, same_lock_sym}
use Rattle.file_params.specs.declared.Refusal.{Refusal}
use Rattle.file_params.specs.declared.Refusal.TheVariants.{WrongPassword}
use Rattle.file_params.specs.Refusal.{number}
use Rattle.file_params.specs.Questions.{Question, scratch_need, ask, asked, lent, book, lock, of_stream, questions, filepass, body_of, filepass_body}
use Rattle.file_params.proofs.Laws.{asked_on, asked_stop, none_of_both}
use Rattle.file_params.proofs.Tables.{given_passes, stream_number}
use Rattle.excel97.specs.declared.Report.{Report}
use Rattle.excel97.specs.Open.{passes, report, outcome_by, outcome_with, Opens}
use Rattle.key_sizes.proofs.Scanned.{seen_there, seen_not, looked}
use Rattle.key_sizes.proofs.Passed.{bof, in_order_lem, first_found}
use Rattle.same_passwords.specs.SamePasswords.{EndsWithin, OfStreams, Reaches27, SameAnswers, OfAnyRuns, SamePasswords}
use Rattle.same_passwords.proofs.Beginnings.{Begins, same_check}

-- what Same lock reads of the FILEPASS body of a stream that questions 6 to 9 let through
module _ (s : List ℕ) (walked : asked (book s) ≡ None) (r : BiffRecord) (f : filepass (walk s).records ≡ Some r) where
  -- how many bytes of it are within the first 1,048,576
  abbrev most : ℕ
  most = 1048576 - (r.at + 4)

  body_is : filepass_body s ≡ take r.len (drop (r.at + 4) s)
  unfolding filepass_body
  body_is = ap (body_of s) f

  read_there : r.at + 4 ≤ 1048576 → capped_body s ≡ take most (filepass_body s)
  read_there h =
      sym (body_found_lem s (Filepass (r.at + 4) r.len) (seen_there s 1048576 r h ∙ sym (looked s r (bof s walked) f (in_order_lem s walked))))
      ∙ part_cut s 1048576 (r.at + 4) r.len
      ∙ ap (take most) (sym body_is)

  -- a body that ends there is read whole
  read_whole : r.at + 4 + r.len ≤ 1048576 → capped_body s ≡ filepass_body s
  read_whole h =
      let size : length (filepass_body s) ≤ most =
      let a = ap length body_is in
      let b = length-take r.len (drop (r.at + 4) s) in
      omega arith in
      read_there (omega arith) ∙ take_all most (filepass_body s) size

  -- where a header is not, the lock is not the same as any
  there : (t : List ℕ) → same_lock s t ≡ true → r.at + 4 ≤ 1048576
  there t e =
      either (r.at + 4) 1048576
      (λ h. h)
      (λ h.
      let z : false ≡ true = first_none s t Unreadable (seen_not s 1048576 r h ∙ sym (looked s r (bof s walked) f (in_order_lem s walked))) unreadable_none ∙ e in
      impossible (cc))

  -- the bytes that are read begin the body
  begins_with : (b : List ℕ) → b ≡ capped_body s → r.at + 4 ≤ 1048576 → Begins b (filepass_body s)
  begins_with b e h i k =
      let q : b ≡ take most (filepass_body s) = e ∙ read_there h in
      let size : length b ≡ min most (length (filepass_body s)) = ap length q ∙ length-take most (filepass_body s) in
      ap (λ (l : List ℕ). get_or l i 0) q ∙ get_or-take most (filepass_body s) i 0 (omega arith)

-- the first body ends there
module _ (s t : List ℕ) (same : same_lock s t ≡ true) (e : asked (of_stream s) ≡ None) (g : asked (of_stream t) ≡ None) (w : EndsWithin s) (password : List ℕ) where
  first_whole : passes (filepass_body s) password ≡ passes (filepass_body t) password
  unfolding of_stream
  first_whole =
      let first = none_of_both (book s) (lock (filepass_body s)) e in
      let second = none_of_both (book t) (lock (filepass_body t)) g in
      let r = first_found t second.0 in
      let other : same_lock t s ≡ true = same_lock_sym t s ∙ same in
      let whole : filepass_body s ≡ capped_body t = sym (read_whole s first.0 w.first w.found w.ends) ∙ shared_body s t same in
      let begins = begins_with t second.0 r.0 r.1 (filepass_body s) whole (there t second.0 r.0 r.1 s other) in
      same_check (filepass_body s) (filepass_body t) begins first.1 password

same_checks : OfStreams
same_checks s t same (inl w) e g password = first_whole s t same e g w password
same_checks s t same (inr w) e g password = sym (first_whole t s (same_lock_sym t s ∙ same) g e w password)

-- a run that reaches question 27: questions 6 to 26 let the stream through, and the check decides
module _ (s password scratch output : List ℕ) (a : (Result Report Refusal)) (scratch' output' : List ℕ)
    (run : Opens s password scratch output a scratch' output') (reaches : Reaches27 a) where
  abbrev lending : List Question
  lending = lent scratch_need password (length s) (length scratch) (length output)

  abbrev last : List Question
  last = ask (passes (filepass_body s) password) WrongPassword ∷ []

  abbrev answer_by : Option Refusal → (Result Report Refusal)
  answer_by d = (outcome_by scratch_need s password scratch output d).answer

  all_asked : a ≡ answer_by (asked (lending ++ (of_stream s ++ last)))
  unfolding outcome_with questions
  all_asked = run.answered

  -- no other question refuses
  not_lent : (r : Refusal) → asked lending ≡ Some r → ⊥
  unfolding lent
  not_lent r e =
      let n = leb-true (number r) 5 (given_passes (λ (q : Refusal). leb (number q) 5) lending r refl e) in
      let m = reaches r (all_asked ∙ ap answer_by (sym (asked_stop lending (of_stream s ++ last) r (sym e)))) in
      omega arith

  lent_passed : asked lending ≡ None
  lent_passed = go (asked lending) refl
    where
      go : (o : Option Refusal) → asked lending ≡ o → asked lending ≡ None
      go None e = e
      go (Some r) e = absurd (not_lent r e)

  later_asked : a ≡ answer_by (asked (of_stream s ++ last))
  later_asked = all_asked ∙ ap answer_by (asked_on lending (of_stream s ++ last) (sym lent_passed))

  not_stream : (r : Refusal) → asked (of_stream s) ≡ Some r → ⊥
  not_stream r e =
      let n = (stream_number s r e).1 in
      let m = reaches r (later_asked ∙ ap answer_by (sym (asked_stop (of_stream s) last r (sym e)))) in
      omega arith

  pub stream_passed : asked (of_stream s) ≡ None
  stream_passed = go (asked (of_stream s)) refl
    where
      go : (o : Option Refusal) → asked (of_stream s) ≡ o → asked (of_stream s) ≡ None
      go None e = e
      go (Some r) e = absurd (not_stream r e)

  pub by_check : a ≡ pick (passes (filepass_body s) password) (Ok (report s)) (Err WrongPassword)
  unfolding asked pick
  by_check = later_asked ∙ ap answer_by (asked_on (of_stream s) last (sym stream_passed)) ∙ checked (passes (filepass_body s) password)
    where
      checked : (t : Bool) → answer_by (asked (ask t WrongPassword ∷ [])) ≡ pick t (Ok (report s)) (Err WrongPassword)
      checked true = refl
      checked false = refl

-- two answers that one check decides
same_answers : (t : Bool) (x y : Report) (a b : (Result Report Refusal)) → a ≡ pick t (Ok x) (Err WrongPassword) → b ≡ pick t (Ok y) (Err WrongPassword) → SameAnswers a b
unfolding pick
same_answers true x y a b e g =
    record { opened_to = λ told h. (y, g); opened_from = λ told h. (x, e); refused_to = λ r h. cc; refused_from = λ r h. cc }
same_answers false x y a b e g =
    record {
      opened_to = λ told h. not_opened told (sym e ∙ h);
      opened_from = λ told h. not_opened told (sym g ∙ h);
      refused_to = λ r h. g ∙ sym e ∙ h;
      refused_from = λ r h. e ∙ sym g ∙ h;
    }
  where
    not_opened : {X : Type 0} (told : Report) → Err WrongPassword ≡ Ok told → X
    not_opened told z = impossible (cc)

pub same_passwords : SamePasswords
same_passwords = record { streams = same_checks; runs = same_runs }
  where
    same_runs : OfAnyRuns
    same_runs s t p w o x q a b w' o' x' q' same within run other-run reaches other-reaches =
        let e = stream_passed s p w o a w' o' run reaches in
        let g = stream_passed t p x q b x' q' other-run other-reaches in
        let check = same_checks s t same within e g p in
        same_answers (passes (filepass_body t) p) (report s) (report t) a b
        (by_check s p w o a w' o' run reaches ∙ ap (λ (k : Bool). pick k (Ok (report s)) (Err WrongPassword)) check)
        (by_check t p x q b x' q' other-run other-reaches)
