-- What a loop over the walk of a stream has tallied, and what is left to tally: together the whole.
-- Assumes nothing.
use Rattle.std.specs.Prelude.{None, Some, Option}
use Rattle.std.specs.Option.{is_some}
use mathlib.Core.Path.{◌≡◌, refl, sym, ap, subst, ◌∙◌}
use mathlib.Core.Bool.{Bool, true, false}
use mathlib.Core.List.{List, [], ◌∷◌}
use Prim.Native.Nat.{ℕ, ◌+◌, ◌*◌, ◌≤◌}
use native.Mathlib.Nat.{zero-add, add-zero}
use native.Mathlib.Numerals.{add-one}
use native.Mathlib.Omega.{arith}
use borrow.Author.Tests.{eqb-true}
use lib.Dec.{eqb}
use lib.ListN.{length, length-drop}
use Rattle.laws.specs.Choice.{pick}
use Rattle.binary_office.specs.declared.Step.TheVariants as step
use Rattle.binary_office.specs.declared.BiffRecord.{BiffRecord}
use Rattle.binary_office.specs.Walk.{Walk, behind, step_at, walk_at, walk, end_from, records_end, remainder, never_encrypted}
use Rattle.binary_office.proofs.Walks.{Counted, counted_none, counted_more, counted_fault}
use Rattle.binary_office.proofs.Along.{records_on, end_on, end_within, records_end_lem, records_fault, along}
use Rattle.file_params.specs.Questions.{filepass, other_id}
use Rattle.survey.specs.Survey.{enciphered_len, enciphered_bytes}
use Rattle.survey.specs.Steps.{filepass_on, other_on, tally_of}
use Rattle.survey.proofs.Records.{clear_within}

-- the first FILEPASS and the first other id, from what was found so far and the records that are left
abbrev filepass_by : Option BiffRecord → List BiffRecord → Option BiffRecord
filepass_by (Some first) rs = Some first
filepass_by None rs = filepass rs

abbrev other_by : Option BiffRecord → Option ℕ → List BiffRecord → Option ℕ
other_by (Some first) o rs = o
other_by None (Some id) rs = Some id
other_by None None rs = other_id rs

module _ (r : BiffRecord) (rs : List BiffRecord) where
  filepass_more : (f : Option BiffRecord) → filepass_by (filepass_on f r) rs ≡ filepass_by f (r ∷ rs)
  unfolding filepass pick
  filepass_more (Some first) = refl
  filepass_more None = go (eqb r.id 0x002F)
    where
      go : (t : Bool) → filepass_by (pick t (Some r) None) rs ≡ pick t (Some r) (filepass rs)
      go true = refl
      go false = refl

  -- FILEPASS is one of the seven
  of_the_seven : eqb r.id 0x002F ≡ true → never_encrypted r.id ≡ true
  of_the_seven e = rw (eqb-true r.id 0x002F e)

  other_more : (f : Option BiffRecord) (o : Option ℕ) → other_by (filepass_on f r) (other_on f o r.id) rs ≡ other_by f o (r ∷ rs)
  unfolding other_id pick
  other_more (Some first) o = refl
  other_more None (Some id) = go (eqb r.id 0x002F)
    where
      go : (t : Bool) → other_by (pick t (Some r) None) (Some id) rs ≡ Some id
      go true = refl
      go false = refl
  other_more None None = go (eqb r.id 0x002F) (never_encrypted r.id) of_the_seven
    where
      go : (t u : Bool) → (t ≡ true → u ≡ true)
          → other_by (pick t (Some r) None) (pick u None (Some r.id)) rs ≡ pick t None (pick u (other_id rs) (Some r.id))
      go true true f = refl
      go true false f = let e = f refl in cc
      go false true f = refl
      go false false f = refl

module _ (s : List ℕ) where
  -- a record more
  module _ (at id len : ℕ) (e : step_at s at ≡ step.Record id len) where
    abbrev rest : List BiffRecord
    rest = (walk_at s (at + 4 + len)).records

    one_more : length rest + 1 ≡ length (walk_at s at).records
    one_more = add-one (length rest) ∙ sym (ap (λ (rs : List BiffRecord). length rs) (records_on s at id len e))

    pub bytes_more : enciphered_len id len + enciphered_bytes rest ≡ enciphered_bytes (walk_at s at).records
    unfolding enciphered_bytes
    bytes_more = sym (ap enciphered_bytes (records_on s at id len e))

  -- the enciphered bytes and four for each record lie behind one another, up to where the records end
  abbrev Fit : ℕ → Type 0
  Fit at = at + (enciphered_bytes (walk_at s at).records + length (walk_at s at).records * 4) ≤ end_from at (walk_at s at).records

  none_left : (at : ℕ) → (walk_at s at).records ≡ [] → Fit at
  unfolding enciphered_bytes
  none_left at e = rw e (omega arith)

  within_records : Fit 0
  within_records =
      along s Fit
      (λ at e. none_left at (records_end_lem s at e))
      (λ at p e. none_left at (records_fault s at p e))
      (λ at id len e again.
      let clear = clear_within id len in
      let one = one_more at id len e in
      let bytes = bytes_more at id len e in
      let ends = end_on s at id len e in
      omega arith)
      0
      (omega arith)

  -- and so does what is left behind them
  pub within_stream : enciphered_bytes (walk s).records + length (walk s).records * 4 + length (remainder s) ≤ length s
  within_stream =
      let records = within_records in
      let inside = end_within s in
      let left_over = length-drop (records_end s) s in
      omega arith

  -- what the loop over the walk keeps: so much is tallied, and w is left
  pub record Tallied (w : Walk) (fault : Option ℕ) (records enciphered : ℕ) (f : Option BiffRecord) (o : Option ℕ) : Type 0 where
    pub counted : Counted s w records fault
    pub summed : enciphered + enciphered_bytes w.records ≡ enciphered_bytes (walk s).records
    pub first : filepass_by f w.records ≡ filepass (walk s).records
    pub before : other_by f o w.records ≡ other_id (walk s).records

  pub tallied_none : Tallied (walk s) None 0 0 None None
  tallied_none = record { counted = counted_none s; summed = zero-add (enciphered_bytes (walk s).records); first = refl; before = refl }

  module _ (w : Walk) (fault : Option ℕ) (records enciphered : ℕ) (f : Option BiffRecord) (o : Option ℕ) (t : Tallied w fault records enciphered f o) where
    module _ (r : BiffRecord) (left : Walk) (e : w ≡ behind r left) where
      pub tallied_more : Tallied left fault (records + 1) (enciphered + enciphered_len r.id r.len) (filepass_on f r) (other_on f o r.id)
      unfolding enciphered_bytes
      tallied_more = more (subst (λ (v : Walk). Tallied v fault records enciphered f o) e t)
        where
          more : Tallied (behind r left) fault records enciphered f o
              → Tallied left fault (records + 1) (enciphered + enciphered_len r.id r.len) (filepass_on f r) (other_on f o r.id)
          more t =
              let sum = t.summed in
              record {
                counted = counted_more s _ records fault t.counted r left refl;
                summed = omega arith;
                first = filepass_more r left.records f ∙ t.first;
                before = other_more r left.records f o ∙ t.before;
              }

      -- so its numbers fit numbers of the machine
      pub tallied_fits : enciphered + enciphered_len r.id r.len + (records + 1) ≤ length s
      tallied_fits =
          let more = tallied_more in
          let sum = more.summed in
          let count = more.counted.counted in
          let fits = within_stream in
          omega arith

    pub tallied_fault : (p : ℕ) → w ≡ record { records = []; fault = Some p }
        → Tallied (record { records = []; fault = None }) (Some p) records enciphered f o
    tallied_fault p e = at_fault (subst (λ (v : Walk). Tallied v fault records enciphered f o) e t)
      where
        at_fault : Tallied (record { records = []; fault = Some p }) fault records enciphered f o → Tallied (record { records = []; fault = None }) (Some p) records enciphered f o
        at_fault t = record { counted = counted_fault s _ records fault t.counted p refl; summed = t.summed; first = t.first; before = t.before }

    -- where nothing is left, all is tallied
    pub tallied_all : w ≡ record { records = []; fault = None }
        → record { fault = fault; records = records; enciphered = enciphered; filepass = f; other = o } ≡ tally_of s
    unfolding tally_of enciphered_bytes filepass other_id
    tallied_all e = all (subst (λ (v : Walk). Tallied v fault records enciphered f o) e t)
      where
        no_more : (f : Option BiffRecord) → filepass_by f [] ≡ f
        no_more (Some first) = refl
        no_more None = refl

        no_others : (f : Option BiffRecord) (o : Option ℕ) → other_by f o [] ≡ o
        no_others (Some first) o = refl
        no_others None (Some id) = refl
        no_others None None = refl

        all : Tallied (record { records = []; fault = None }) fault records enciphered f o
            → record { fault = fault; records = records; enciphered = enciphered; filepass = f; other = o } ≡ tally_of s
        all t =
            rw (← t.counted.ends, ← t.counted.counted, ← t.summed, ← t.first, ← t.before, no_more f, no_others f o, add-zero records, add-zero enciphered) refl

  -- where no FILEPASS was met the record may be the first, and behind one it changes neither
  module _ (w : Walk) (fault : Option ℕ) (records enciphered : ℕ) (o : Option ℕ) (r : BiffRecord) where
    pub before_filepass : (f : Option BiffRecord) → is_some f ≡ false → Tallied w fault records enciphered (filepass_on f r) (other_on f o r.id)
        → Tallied w fault records enciphered (filepass_on None r) (other_on None o r.id)
    before_filepass None e t = t
    before_filepass (Some first) e t = cc

    pub behind_filepass : (f : Option BiffRecord) → is_some f ≡ true → Tallied w fault records enciphered (filepass_on f r) (other_on f o r.id)
        → Tallied w fault records enciphered f o
    behind_filepass None e t = cc
    behind_filepass (Some first) e t = t
