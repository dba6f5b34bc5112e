-- What a loop over the walk of a stream has tallied, and what is left to tally: together the whole.
-- Assumes nothing.
use Rattle.std.specs.Int.{from_bool}
use Rattle.std.specs.Prelude.{Option, None, Ok, Result}
use mathlib.Core.Path.{◌≡◌, refl, subst}
use mathlib.Core.Bool.{Bool, true, false}
use mathlib.Core.List.{List, []}
use Prim.Native.Nat.{ℕ, ◌+◌, ◌≤◌}
use native.Mathlib.Nat.{add-zero}
use native.Mathlib.Omega.{arith}
use lib.Dec.{eqb}
use lib.ListN.{length}
use Rattle.binary_office.specs.declared.BiffRecord.{BiffRecord}
use Rattle.binary_office.specs.Walk.{Walk, behind, walk}
use Rattle.binary_office.proofs.Walks.{Counted, counted_none, counted_more, few_records}
use Rattle.directory.specs.Directory.{bound_sheets}
use Rattle.directory.specs.Steps.{paired_by, depth, pairing_by, tally_of}
use Rattle.directory.proofs.Pairings.{depth_more}
use Rattle.directory.proofs.Records.{count_more}

-- a record is one BoundSheet8 at the most
pub one_at_most : (t : Bool) → from_bool t ≤ 1
one_at_most true = omega arith
one_at_most false = omega arith

module _ (s : List ℕ) where
  -- so much is tallied of the first n records, and w is left
  pub record Tallied (w : Walk) (fault : Option ℕ) (sheets : ℕ) (p : Result ℕ ℕ) : Type 0 where
    pub n : ℕ
    pub met : Counted s w n fault
    pub fewer : sheets ≤ n
    pub shallow : depth p ≤ n
    pub counted : sheets + length (bound_sheets w.records) ≡ length (bound_sheets (walk s).records)
    pub paired : pairing_by p w.records ≡ pairing_by (Ok 0) (walk s).records

  pub tallied_none : Tallied (walk s) None 0 (Ok 0)
  tallied_none = record { n = 0; met = counted_none s; fewer = omega arith; shallow = omega arith; counted = omega arith; paired = refl }

  module _ (w : Walk) (fault : Option ℕ) (sheets : ℕ) (p : Result ℕ ℕ) (t : Tallied w fault sheets p) where
    module _ (r : BiffRecord) (left : Walk) (e : w ≡ behind r left) where
      pub tallied_more : Tallied left fault (sheets + from_bool (eqb r.id 0x0085)) (paired_by p r.at r.id)
      unfolding pairing_by
      tallied_more = more (subst (λ (v : Walk). Tallied v fault sheets p) e t)
        where
          more : Tallied (behind r left) fault sheets p → Tallied left fault (sheets + from_bool (eqb r.id 0x0085)) (paired_by p r.at r.id)
          more t =
              let few = t.fewer in
              let low = t.shallow in
              let count = t.counted in
              let added = count_more r left.records in
              let one = one_at_most (eqb r.id 0x0085) in
              let deeper = depth_more p r.at r.id in
              record {
                n = t.n + 1;
                met = counted_more s _ t.n fault t.met r left refl;
                fewer = omega arith;
                shallow = omega arith;
                counted = omega arith;
                paired = t.paired;
              }

      -- so its numbers fit numbers of the machine
      pub tallied_fits : (sheets + 1 ≤ length s) × (depth p + 1 ≤ length s)
      tallied_fits =
          let few = t.fewer in
          let low = t.shallow in
          let count = (counted_more s w t.n fault t.met r left e).counted in
          let most = few_records s 0 (omega arith) in
          (omega arith, omega arith)

    -- where nothing is left, all is tallied
    pub tallied_all : w ≡ record { records = []; fault = None } → record { fault = fault; sheets = sheets; pairing = p } ≡ tally_of s
    unfolding tally_of bound_sheets pairing_by
    tallied_all e = all (subst (λ (v : Walk). Tallied v fault sheets p) e t)
      where
        all : Tallied (record { records = []; fault = None }) fault sheets p → record { fault = fault; sheets = sheets; pairing = p } ≡ tally_of s
        all t = rw (← t.met.ends, ← t.counted, ← t.paired, add-zero sheets) refl
