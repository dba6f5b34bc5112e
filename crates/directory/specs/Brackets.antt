-- "BOF and EOF (000A) must pair up like brackets over the whole stream": request T-01 of document 02, as a property of the ids in their order.
-- Assumes nothing.
use Rattle.std.specs.Prelude.{◌≡◌, ℕ, List, [], ◌∷◌, ◌++◌, None, Some}
use Rattle.binary_office.specs.declared.BiffRecord.{BiffRecord}
use Rattle.directory.specs.Directory.{unpaired}

abbrev pub bof : ℕ
bof = 0x0809

abbrev pub eof : ℕ
eof = 0x000A

abbrev pub ids_of : List BiffRecord → List ℕ
ids_of [] = []
ids_of (r ∷ rs) = r.id ∷ ids_of rs

-- every BOF has an EOF that closes it, and every EOF closes the last BOF that is open: a BOF, ids that pair up among themselves, its EOF, and ids that do so behind it
pub data Paired : List ℕ → Type 0 where
  nothing : Paired []
  other : {id : ℕ} {ids : List ℕ} → (id ≡ bof → ⊥) → (id ≡ eof → ⊥) → Paired ids → Paired (id ∷ ids)
  around : {inner behind : List ℕ} → Paired inner → Paired behind → Paired (bof ∷ (inner ++ (eof ∷ behind)))

-- the count of open BOF, `unpaired`, tests this, and tells the place that question 29 names
pub record Counted : Type 0 where
  pub passes : (size : ℕ) (rs : List BiffRecord) → unpaired size 0 rs ≡ None → Paired (ids_of rs)
  pub passed : (size : ℕ) (rs : List BiffRecord) → Paired (ids_of rs) → unpaired size 0 rs ≡ None
  -- "the first EOF with no open BOF (its offset)": the ids before it pair up, so each EOF before it closes a BOF, and none is open
  pub stray : (size : ℕ) (before : List BiffRecord) (r : BiffRecord) (behind : List BiffRecord) → Paired (ids_of before) → r.id ≡ eof
      → unpaired size 0 (before ++ (r ∷ behind)) ≡ Some r.at
  -- "else for a BOF left open at the end (stream length)"
  pub left_open : (size : ℕ) (rs : List BiffRecord) → (Paired (ids_of rs) → ⊥)
      → ((before : List BiffRecord) (r : BiffRecord) (behind : List BiffRecord) → rs ≡ before ++ (r ∷ behind) → Paired (ids_of before) → r.id ≡ eof → ⊥)
      → unpaired size 0 rs ≡ Some size
