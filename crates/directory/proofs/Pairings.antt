-- How BOF and EOF pair up, one record after the other: what was found before a record, and the record, tell what is found behind it.
-- Assumes nothing.
use Rattle.std.specs.Prelude.{Some, Ok, Err, Result}
use mathlib.Core.Path.{◌≡◌, refl, sym, ◌∙◌}
use mathlib.Core.Bool.{Bool, true, false}
use mathlib.Core.List.{List, [], ◌∷◌}
use Prim.Native.Nat.{ℕ, ◌+◌, ◌-◌, ◌≤◌}
use native.Mathlib.Omega.{arith}
use lib.Dec.{eqb}
use Rattle.laws.specs.Choice.{pick}
use Rattle.binary_office.specs.declared.BiffRecord.{BiffRecord}
use Rattle.directory.specs.Directory.{is_bof, is_eof, unpaired}
use Rattle.directory.specs.Steps.{paired_by, depth, pairing_by, unpaired_by}

-- one record more, by the three tests
pub paired_more : (size : ℕ) (p : Result ℕ ℕ) (r : BiffRecord) (rs : List BiffRecord) → unpaired_by size p (r ∷ rs) ≡ unpaired_by size (paired_by p r.at r.id) rs
unfolding unpaired pick
paired_more size (Err offset) r rs = refl
paired_more size (Ok n) r rs = go (is_bof r) (is_eof r) (eqb n 0)
  where
    go : (t u v : Bool)
        → pick t (unpaired size (n + 1) rs) (pick u (pick v (Some r.at) (unpaired size (n - 1) rs)) (unpaired size n rs))
        ≡ unpaired_by size (pick t (Ok (n + 1)) (pick u (pick v (Err r.at) (Ok (n - 1))) (Ok n))) rs
    go true u v = refl
    go false true true = refl
    go false true false = refl
    go false false v = refl

-- all the records that are left
pub unpaired_whole : (size : ℕ) (p : Result ℕ ℕ) (rs : List BiffRecord) → unpaired_by size (pairing_by p rs) [] ≡ unpaired_by size p rs
unfolding pairing_by
unpaired_whole size p [] = refl
unpaired_whole size p (r ∷ rs) = unpaired_whole size (paired_by p r.at r.id) rs ∙ sym (paired_more size p r rs)

-- a record opens one BOF at the most
pub depth_more : (p : Result ℕ ℕ) (at id : ℕ) → depth (paired_by p at id) ≤ depth p + 1
unfolding pick
depth_more (Err offset) at id = omega arith
depth_more (Ok n) at id = go (eqb id 0x0809) (eqb id 0x000A) (eqb n 0)
  where
    go : (t u v : Bool) → depth (pick t (Ok (n + 1)) (pick u (pick v (Err at) (Ok (n - 1))) (Ok n))) ≤ n + 1
    go true u v = omega arith
    go false true true = omega arith
    go false true false = omega arith
    go false false v = omega arith
