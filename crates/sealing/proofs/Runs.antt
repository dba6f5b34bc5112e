-- What a run of `seal` tells that sealed, and that was refused; and that what one run was lent is enough for another with the same password.
-- Assumes nothing.
use Rattle.std.specs.Prelude.{Option, None, Some, Ok, is_some}
use mathlib.Core.Path.{◌≡◌, refl, sym, ap, ◌∙◌}
use mathlib.Core.Bool.{true}
use mathlib.Core.List.{List, [], ◌∷◌, ◌++◌}
use Prim.Native.Nat.{ℕ, ◌≤◌}
use borrow.Author.Tests.{le-leb, leb-true}
use lib.ListN.{length, drop}
use Rattle.sensitive.specs.Utf8.{well_formed}
use Rattle.binary_office.specs.declared.BiffRecord.{BiffRecord}
use Rattle.file_params.specs.declared.Refusal.{Refusal}
use Rattle.file_params.specs.declared.Refusal.TheVariants.{XorPasswordUnfit}
use Rattle.file_params.specs.Questions.{scratch_need, ask, asked, lent}
use Rattle.file_params.proofs.Laws.{past, none_of_both, first_yes, rest_yes}
use Rattle.excel97.specs.declared.Report.{Report}
use Rattle.excel97.specs.Open.{report}
use Rattle.excel97.proofs.Blanked.{never}
use Rattle.sealing.specs.declared.Choice.{Choice}
use Rattle.sealing.specs.Seal.{zero_of, takes, of_plain, seal_questions, sealed, outcome_by, outcome, Seals}
use Rattle.sealing.proofs.Settled.{Passed, passed_all}

-- questions 1 to 5, passed: of the password, the stream's length, the scratch and the output
pub record Lent (p : List ℕ) (stream scratch output : ℕ) : Type 0 where
  pub short : length p ≤ 1024
  pub password_well_formed : well_formed p ≡ true
  pub enough : scratch_need ≤ scratch
  pub fits : stream ≤ 1073741824
  pub room : stream ≤ output

pub lent_told : (p : List ℕ) (stream scratch output : ℕ) → asked (lent scratch_need p stream scratch output) ≡ None → Lent p stream scratch output
unfolding lent
lent_told p stream scratch output e =
    let q = lent scratch_need p stream scratch output in
    let a : asked (drop 1 q) ≡ None = rest_yes _ (drop 1 q) e in
    let b : asked (drop 2 q) ≡ None = rest_yes _ (drop 2 q) a in
    let c : asked (drop 3 q) ≡ None = rest_yes _ (drop 3 q) b in
    let d : asked (drop 4 q) ≡ None = rest_yes _ (drop 4 q) c in
    record {
      short = leb-true (length p) 1024 (first_yes _ (drop 1 q) e);
      password_well_formed = first_yes _ (drop 2 q) a;
      enough = leb-true scratch_need scratch (first_yes _ (drop 3 q) b);
      fits = leb-true stream 1073741824 (first_yes _ (drop 4 q) c);
      room = leb-true stream output (first_yes _ [] d);
    }

pub lent_passed : (p : List ℕ) (stream scratch output : ℕ) → Lent p stream scratch output → None ≡ asked (lent scratch_need p stream scratch output)
unfolding asked lent
lent_passed p stream scratch output l =
    past _ (le-leb (length p) 1024 l.short)
    (past _ l.password_well_formed
    (past _ (le-leb scratch_need scratch l.enough) (past _ (le-leb stream 1073741824 l.fits) (past _ (le-leb stream output l.room) refl))))

-- a run, by the refusal that the questions give
module _ (plain password : List ℕ) (choice : Choice) (salt verifier scratch output : List ℕ) where
  abbrev given : Option Refusal
  given = asked (seal_questions plain password choice scratch output)

  -- one that sealed
  pub record HasSealed (x : Report) (output' : List ℕ) : Type 0 where
    pub passed : Passed plain choice
    pub lending : Lent password (length plain) (length scratch) (length output)
    pub taken : takes choice password ≡ true
    pub zero : BiffRecord
    pub found : zero_of plain ≡ Some zero
    pub told : x ≡ report (sealed plain password choice salt verifier)
    pub written : output' ≡ sealed plain password choice salt verifier ++ drop (length plain) output

  some_zero : (o : Option BiffRecord) → is_some o ≡ true → (z : BiffRecord) × (o ≡ Some z)
  some_zero None e = absurd (never (sym e))
  some_zero (Some z) e = (z, refl)

  by_outcome : (d : Option Refusal) (x : Report) → Ok x ≡ (outcome_by plain password choice salt verifier scratch output d).answer
      → (d ≡ None) × (x ≡ report (sealed plain password choice salt verifier))
  by_outcome None x e = (refl, cc)
  by_outcome (Some r) x e = (cc, cc)

  pub has_sealed : (x : Report) (scratch' output' : List ℕ) → Seals plain password choice salt verifier scratch output (Ok x) scratch' output' → HasSealed x output'
  unfolding outcome seal_questions
  has_sealed x scratch' output' run =
      let lending = lent scratch_need password (length plain) (length scratch) (length output) in
      let last = ask (takes choice password) XorPasswordUnfit ∷ [] in
      let o = by_outcome given x run.answered in
      let a = none_of_both lending (of_plain plain choice ++ last) o.0 in
      let b = none_of_both (of_plain plain choice) last a.1 in
      let p = passed_all plain choice b.0 in
      let z = some_zero (zero_of plain) p.there in
      record {
        passed = p;
        lending = lent_told password (length plain) (length scratch) (length output) a.0;
        taken = first_yes _ [] b.1;
        zero = z.0;
        found = z.1;
        told = o.1;
        written = run.output_left ∙ ap (λ (d : Option Refusal). (outcome_by plain password choice salt verifier scratch output d).output) o.0;
      }
