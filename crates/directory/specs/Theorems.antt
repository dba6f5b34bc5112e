-- What requests T-01 and T-05 of document 02 say of the directory, sentence by sentence: of the definition, and of any run that the contract of Open allows.
-- Assumes nothing.
use Rattle.std.specs.Prelude.{◌≡◌, ℕ, ◌+◌, ◌≤◌, ◌<◌, length, take, Some, None, Ok, Err}
use mathlib.Core.List.{List, [], ◌∷◌, ◌++◌, Memᴰ}
use Rattle.binary_office.specs.declared.BiffRecord.{BiffRecord}
use Rattle.binary_office.specs.Walk.{zero_bytes, walk, remainder}
use Rattle.file_params.specs.declared.Refusal.{Refusal}
use Rattle.file_params.specs.declared.Refusal.TheVariants.{BoundSheetStart, BofEofUnpaired}
use Rattle.file_params.specs.Refusal.{number}
use Rattle.file_params.specs.Numbers.{numbers}
use Rattle.excel97.specs.declared.Report.{Report}
use Rattle.excel97.specs.Open.{Opens}
use Rattle.directory.specs.declared.Sheets.{Sheets}
use Rattle.directory.specs.Directory.{bound_sheets, start_of, unpaired, checks, directory}
use Rattle.directory.specs.Brackets.{bof, ids_of, Paired}

-- an offset that is the header of a BOF record that the walk reaches
abbrev pub Header : (stream : List ℕ) → (offset : ℕ) → Type 0
Header stream offset = (r : BiffRecord) × (Memᴰ r (walk stream).records) × (r.at ≡ offset) × (r.id ≡ bof)

-- a BoundSheet8 record whose body is not under 4 bytes and whose start is such a header
pub record Fits (stream : List ℕ) (r : BiffRecord) : Type 0 where
  pub four : 4 ≤ r.len
  pub start : Header stream (start_of stream r)

-- where the directory of a stream answers at a place
pub record Answers (stream : List ℕ) (place : ℕ) (told : Sheets) : Type 0 where
  -- "Each start must be the header of a BOF record that the walk reaches."
  pub header : (offset : ℕ) → told.start ≡ Some offset → Header stream offset
  pub every : (r : BiffRecord) → Memᴰ r (bound_sheets (walk stream).records) → Fits stream r
  -- "BOF and EOF (000A) must pair up like brackets over the whole stream, since charts sit inside sheets."
  pub brackets : Paired (ids_of (walk stream).records)
  -- "or none from the count on": exactly from there on
  pub none_there : told.start ≡ None → told.count ≤ place
  pub none_from : told.count ≤ place → told.start ≡ None

-- "28 for the first BoundSheet8 whose body is under 4 bytes or whose start is no such header (its offset)"
pub record FirstUnfit (stream : List ℕ) (offset : ℕ) : Type 0 where
  pub before : List BiffRecord
  pub this : BiffRecord
  pub behind : List BiffRecord
  pub sheets : bound_sheets (walk stream).records ≡ before ++ (this ∷ behind)
  pub fit : (r : BiffRecord) → Memᴰ r before → Fits stream r
  pub unfits : Fits stream this → ⊥
  pub place : this.at ≡ offset

-- the directory of a stream at two places: the same refusal, or the same count
pub record TwoPlaces (stream : List ℕ) (p q : ℕ) : Type 0 where
  pub same_refusal : (r : Refusal) → directory stream p ≡ Err r → directory stream q ≡ Err r
  pub same_count : (t u : Sheets) → directory stream p ≡ Ok t → directory stream q ≡ Ok u → t.count ≡ u.count

-- document 02, T-05: "the directory and forecast accept it": a book that its records fill, and the same with n bytes of padding behind it, at one place
pub record TwoBooks (stream : List ℕ) (n place : ℕ) : Type 0 where
  pub told_to : (t : Sheets) → directory stream place ≡ Ok t → directory (stream ++ zero_bytes n) place ≡ Ok t
  pub told_from : (t : Sheets) → directory (stream ++ zero_bytes n) place ≡ Ok t → directory stream place ≡ Ok t
  pub refused_to : (r : Refusal) → (number r ≡ 29 → ⊥) → directory stream place ≡ Err r → directory (stream ++ zero_bytes n) place ≡ Err r
  pub refused_from : (r : Refusal) → (number r ≡ 29 → ⊥) → directory (stream ++ zero_bytes n) place ≡ Err r → directory stream place ≡ Err r
  -- 29: an EOF with no open BOF stands where it stood, and for a BOF left open the stream's length counts the padding
  pub stray : (o : ℕ) → o < length stream → directory stream place ≡ Err (BofEofUnpaired o)
      → directory (stream ++ zero_bytes n) place ≡ Err (BofEofUnpaired o)
  pub left_open : directory stream place ≡ Err (BofEofUnpaired (length stream))
      → directory (stream ++ zero_bytes n) place ≡ Err (BofEofUnpaired (length stream + n))

pub record Directories : Type 0 where
  pub answers : (stream : List ℕ) (place : ℕ) (told : Sheets) → directory stream place ≡ Ok told → Answers stream place told
  pub two_places : (stream : List ℕ) (p q : ℕ) → TwoPlaces stream p q
  pub refused_28 : (stream : List ℕ) (place offset : ℕ) → directory stream place ≡ Err (BoundSheetStart offset) → FirstUnfit stream offset
  -- 29 comes where every BoundSheet8 is fit; `Counted` says of which offset
  pub refused_29 : (stream : List ℕ) (place offset : ℕ) → directory stream place ≡ Err (BofEofUnpaired offset)
      → ((r : BiffRecord) → Memᴰ r (bound_sheets (walk stream).records) → Fits stream r) × (unpaired (length stream) 0 (walk stream).records ≡ Some offset)
  -- "Checks: 4, 6 and 7 first; 28 ..; then 29"
  pub numbered : (stream : List ℕ) → numbers (checks stream) ≡ 4 ∷ 6 ∷ 7 ∷ 28 ∷ 29 ∷ []
  -- of a book that its records fill, up to 1 GiB with the padding
  pub of_padded : (stream : List ℕ) (n : ℕ) → remainder stream ≡ [] → n ≤ 3 → length stream + n ≤ 1073741824 → (place : ℕ) → TwoBooks stream n place
  -- a stream that opens and its plain form have the same directory, refusals included: headers and the four bytes are clear
  pub plain_same : (stream password scratch output : List ℕ) (told : Report) (scratch' output' : List ℕ)
      → Opens stream password scratch output (Ok told) scratch' output'
      → (place : ℕ) → directory (take (length stream) output') place ≡ directory stream place
