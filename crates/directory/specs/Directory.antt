-- The directory of sheets: request T-01 of document 02, over the records of MS-XLS named BoundSheet8 (0085), BOF (0809) and EOF (000A), each told by its id alone.
-- Assumes nothing.
use Rattle.std.specs.Option.{unwrap_or}
use Rattle.std.specs.Prelude.{ℕ, ◌+◌, ◌-◌, Bool, false, ◌&&◌, ◌||◌, List, [], ◌∷◌, ◌++◌, eqb, leb, length, Option, None, Some, is_none, Result}
use Rattle.std.specs.List.{slice_get}
use Rattle.laws.specs.Choice.{pick}
use Rattle.word.specs.Word.{le32}
use Rattle.binary_office.specs.declared.BiffRecord.{BiffRecord}
use Rattle.binary_office.specs.Walk.{walk}
use Rattle.file_params.specs.declared.Refusal.{Refusal}
use Rattle.file_params.specs.declared.Refusal.TheVariants.{BoundSheetStart, BofEofUnpaired}
use Rattle.file_params.specs.Questions.{Question, ask, asked, unless, stream_fits, in_order}
use Rattle.directory.specs.declared.Sheets.{Sheets}

abbrev pub is_bound_sheet : BiffRecord → Bool
is_bound_sheet r = eqb r.id 0x0085

abbrev pub is_bof : BiffRecord → Bool
is_bof r = eqb r.id 0x0809

abbrev pub is_eof : BiffRecord → Bool
is_eof r = eqb r.id 0x000A

-- the BoundSheet8 records, in stream order
unfoldable pub bound_sheets : List BiffRecord → List BiffRecord
bound_sheets [] = []
bound_sheets (r ∷ rs) = pick (is_bound_sheet r) (r ∷ bound_sheets rs) (bound_sheets rs)

-- the start of a sheet: the four clear bytes of its BoundSheet8 record
abbrev pub start_of : (stream : List ℕ) → BiffRecord → ℕ
start_of stream r = le32 stream (r.at + 4)

unfoldable pub starts : (stream : List ℕ) → (sheets : List BiffRecord) → List ℕ
starts stream [] = []
starts stream (r ∷ rs) = start_of stream r ∷ starts stream rs

-- whether an offset is the header of a BOF record that the walk reaches
unfoldable pub bof_at : List BiffRecord → ℕ → Bool
bof_at [] offset = false
bof_at (r ∷ rs) offset = (eqb r.at offset && is_bof r) || bof_at rs offset

-- the first BoundSheet8 whose body is under 4 bytes or whose start is no such header, by its offset
unfoldable pub unfit : (stream : List ℕ) → (records sheets : List BiffRecord) → Option ℕ
unfit stream records [] = None
unfit stream records (r ∷ rs) = pick (leb 4 r.len && bof_at records (start_of stream r)) (unfit stream records rs) (Some r.at)

-- the first EOF with no open BOF, by its offset, else the stream's length for a BOF that is left open at the end; n is how many are open
unfoldable pub unpaired : (size n : ℕ) → List BiffRecord → Option ℕ
unpaired size n [] = pick (eqb n 0) None (Some size)
unpaired size n (r ∷ rs) =
    pick (is_bof r) (unpaired size (n + 1) rs)
    (pick (is_eof r) (pick (eqb n 0) (Some r.at) (unpaired size (n - 1) rs))
    (unpaired size n rs))

-- of the BoundSheet8 records, and of BOF and EOF
unfoldable pub of_sheets : (stream : List ℕ) → List Question
of_sheets stream =
    let records = (walk stream).records in
    let sheet = unfit stream records (bound_sheets records) in
    let bracket = unpaired (length stream) 0 records in
    ask (is_none sheet) (BoundSheetStart (unwrap_or sheet 0))  -- 28
    ∷ ask (is_none bracket) (BofEofUnpaired (unwrap_or bracket 0))  -- 29
    ∷ []

-- "Checks: 4, 6 and 7 first; 28 for the first BoundSheet8 whose body is under 4 bytes or whose start is no such header (its offset); then 29 for the first
-- EOF with no open BOF (its offset), else for a BOF left open at the end (stream length)."
unfoldable pub checks : (stream : List ℕ) → List Question
checks stream =
    stream_fits (length stream)  -- 4
    ∷ (in_order (walk stream).fault (walk stream).records  -- 6, 7
    ++ of_sheets stream)  -- 28, 29

-- how many BoundSheet8 records there are and, for a place from 0 in stream order, the start of that sheet, or none from the count on
abbrev pub sheets_of : (stream : List ℕ) → (sheets : List BiffRecord) → (place : ℕ) → Sheets
sheets_of stream sheets place = record { count = length sheets; start = slice_get (starts stream sheets) place }

-- what `directory` answers
unfoldable pub directory : (stream : List ℕ) → (place : ℕ) → Result Sheets Refusal
directory stream place = unless (sheets_of stream (bound_sheets (walk stream).records) place) (asked (checks stream))
