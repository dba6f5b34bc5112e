-- Two streams of equal length whose records are the same but for one id. Outside that record's id and body each offset lies in the same record of both, or in that
-- record's header, or in none; so what is put through a function in the one and through its inverse in the other comes back.
-- Assumes nothing.
use Rattle.std.specs.Prelude.{Option, None, Some}
use mathlib.Core.Path.{◌≡◌, refl, sym, ap, ◌∙◌}
use mathlib.Core.Bool.{Bool, true, false, ◌&&◌}
use mathlib.Core.List.{List, [], ◌∷◌}
use Prim.Native.Nat.{ℕ, ◌+◌, ◌≤◌, ◌<◌}
use native.Mathlib.Omega.{arith}
use borrow.Author.Tests.{leb-true, ltb-true}
use lib.Dec.{leb, ltb}
use Rattle.laws.specs.Choice.{pick}
use Rattle.laws.proofs.Choice.{either, same_or}
use Rattle.binary_office.specs.declared.Step.TheVariants as step
use Rattle.binary_office.specs.declared.BiffRecord.{BiffRecord}
use Rattle.binary_office.specs.Walk.{step_at, walk_at, walk, clear_len}
use Rattle.binary_office.proofs.Along.{records_on, records_end_lem, records_fault, along}
use Rattle.binary_office.proofs.Renamed.{renamed}
use Rattle.excel97.specs.Open.{record_at, covers, in_record, blanked}
use Rattle.excel97.proofs.Blanked.{never, blank_body}
use Rattle.excel97.proofs.Records.{Reached, reached_none, reached_on}
use Rattle.excel97.proofs.Through.{own_byte, other_byte}
use Rattle.excel97.proofs.OneRecord.{with_id, id_kept}
use Rattle.sealing.proofs.ZeroRecords.{nothing_is}

-- the record that an offset lies in, with another id
abbrev retitled : (ℕ → ℕ → ℕ) → Option BiffRecord → Option BiffRecord
retitled new None = None
retitled new (Some r) = Some (record { at = r.at; id = new r.at r.id; len = r.len })

record_renamed : (new : ℕ → ℕ → ℕ) (rs : List BiffRecord) (o : ℕ) → record_at (renamed new rs) o ≡ retitled new (record_at rs o)
unfolding record_at pick
record_renamed new [] o = refl
record_renamed new (r ∷ rs) o = go (covers r o) (record_renamed new rs o)
  where
    it : BiffRecord
    it = record { at = r.at; id = new r.at r.id; len = r.len }

    go : (t : Bool) → record_at (renamed new rs) o ≡ retitled new (record_at rs o) → pick t (Some it) (record_at (renamed new rs) o) ≡ retitled new (pick t (Some r) (record_at rs o))
    go true e = refl
    go false e = e

-- a record that an offset lies in stands in the walk
pub record Stands (s : List ℕ) (q : BiffRecord) (o : ℕ) : Type 0 where
  pub reached : Reached s q.at
  pub stands : step_at s q.at ≡ step.Record q.id q.len
  pub from : q.at ≤ o
  pub to : o < q.at + 4 + q.len

pub record_stands : (s : List ℕ) (q : BiffRecord) (o : ℕ) → record_at (walk s).records o ≡ Some q → Stands s q o
unfolding record_at pick
record_stands s q o =
    along s (λ (at : ℕ). Reached s at → record_at (walk_at s at).records o ≡ Some q → Stands s q o)
    (λ at e w g. nothing_is q (sym (in_no_record (walk_at s at).records (records_end_lem s at e)) ∙ g))
    (λ at p e w g. nothing_is q (sym (in_no_record (walk_at s at).records (records_fault s at p e)) ∙ g))
    (λ at id len e again w g. here at id len e w (again (reached_on s at id len w e)) (rw (records_on s at id len e) at g))
    0
    (omega arith)
    (reached_none s)
  where
    in_no_record : (rs : List BiffRecord) → rs ≡ [] → record_at rs o ≡ None
    in_no_record rs e = rw e

    here : (at id len : ℕ) → step_at s at ≡ step.Record id len → Reached s at → (record_at (walk_at s (at + 4 + len)).records o ≡ Some q → Stands s q o)
        → record_at (record { at = at; id = id; len = len } ∷ (walk_at s (at + 4 + len)).records) o ≡ Some q → Stands s q o
    here at id len e w again g = go (leb at o) (ltb o (at + 4 + len)) refl refl g
      where
        go : (t u : Bool) → leb at o ≡ t → ltb o (at + 4 + len) ≡ u
            → pick (t && u) (Some (record { at = at; id = id; len = len })) (record_at (walk_at s (at + 4 + len)).records o) ≡ Some q → Stands s q o
        go true true a b g =
            let z : record { at = at; id = id; len = len } ≡ q = cc in
            rw (← z) (record { reached = w; stands = e; from = leb-true at o a; to = ltb-true o (at + 4 + len) b })
        go true false a b g = again g
        go false u a b g = again g

-- where an offset lies in two streams: in the same record or in none, or in the header of one record that has another id there
pub data SamePlace (a b : Option BiffRecord) (o : ℕ) : Type 0 where
  same : a ≡ b → SamePlace a b o
  header : (q t : BiffRecord) → a ≡ Some q → b ≡ Some t → o < q.at + 4 → o < t.at + 4 → SamePlace a b o

module _ (s d : List ℕ) (r : BiffRecord) (new : ℕ) (there : Reached s r.at) (stands : step_at s r.at ≡ step.Record r.id r.len)
    (records : (walk d).records ≡ renamed (with_id r.at new) (walk s).records) where
  other_is : (o : ℕ) → record_at (walk d).records o ≡ retitled (with_id r.at new) (record_at (walk s).records o)
  other_is o = ap (λ (rs : List BiffRecord). record_at rs o) records ∙ record_renamed (with_id r.at new) (walk s).records o

  same_length : (q : BiffRecord) → step_at s q.at ≡ step.Record q.id q.len → q.at ≡ r.at → q.len ≡ r.len
  same_length q e g = let h : step.Record q.id q.len ≡ step.Record r.id r.len = sym e ∙ ap (step_at s) g ∙ stands in cc

  pub same_place : (o : ℕ) → blanked (Some r) o ≡ false → SamePlace (record_at (walk s).records o) (record_at (walk d).records o) o
  same_place o b = go (record_at (walk s).records o) refl
    where
      -- an offset of the record that is not in its id and not in its body is in its length
      in_header : r.at ≤ o → o < r.at + 4 + r.len → o < r.at + 4
      in_header h k = either (r.at + 4) o (λ m. absurd (never (sym (blank_body r o m k) ∙ b))) (λ m. m)

      go : (a : Option BiffRecord) → record_at (walk s).records o ≡ a → SamePlace (record_at (walk s).records o) (record_at (walk d).records o) o
      go None e = same (e ∙ sym (other_is o ∙ ap (retitled (with_id r.at new)) e))
      go (Some q) e =
          let f = record_stands s q o e in
          let g : record_at (walk d).records o ≡ Some (record { at = q.at; id = with_id r.at new q.at q.id; len = q.len }) =
          other_is o ∙ ap (retitled (with_id r.at new)) e in
          let from = f.from in
          let to = f.to in
          same_or q.at r.at
          (λ p.
          let l = same_length q f.stands p in
          let m = in_header (omega arith) (omega arith) in
          header q (record { at = q.at; id = with_id r.at new q.at q.id; len = q.len }) e g (omega arith) (omega arith))
          (λ n. same (e ∙ sym (g ∙ ap (λ (i : ℕ). Some (record { at = q.at; id = i; len = q.len })) (id_kept r.at new q.at q.id n))))

-- put through one function in the first and through another, which undoes it, in the second
module _ (f g : BiffRecord → ℕ → ℕ → ℕ) (o x : ℕ) (undone : (r : BiffRecord) → f r o (g r o x) ≡ x) where
  in_same : (a : Option BiffRecord) → in_record f a o (in_record g a o x) ≡ x
  in_same None = refl
  in_same (Some r) =
      either (r.at + 4 + clear_len r.id r.len) o
      (λ h. ap (λ (y : ℕ). in_record f (Some r) o y) (other_byte g r o x h) ∙ other_byte f r o (g r o x) h ∙ undone r)
      (λ h. ap (λ (y : ℕ). in_record f (Some r) o y) (own_byte g r o x h) ∙ own_byte f r o x h)

  pub undone_there : (a b : Option BiffRecord) → SamePlace a b o → in_record f a o (in_record g b o x) ≡ x
  undone_there a b (same e) = ap (λ (c : Option BiffRecord). in_record f a o (in_record g c o x)) (sym e) ∙ in_same a
  undone_there a b (header q t e k h m) =
      rw (e, k) (ap (λ (y : ℕ). in_record f (Some q) o y) (own_byte g t o x (omega arith)) ∙ own_byte f q o x (omega arith))

  pub undone_back : (a b : Option BiffRecord) → SamePlace b a o → in_record f a o (in_record g b o x) ≡ x
  undone_back a b (same e) = undone_there a b (same (sym e))
  undone_back a b (header q t e k h m) = undone_there a b (header t q k e m h)
