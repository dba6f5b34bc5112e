-- What the private functions of the directory answer, in terms of its definitions. Nothing that is promised outside rests on this file.
-- Assumes nothing.
use Rattle.std.specs.Prelude.{◌≡◌, ℕ, ◌+◌, ◌-◌, ◌≤◌, List, [], ◌∷◌, eqb, length, Option, None, Some, Ok, Err, Result}
use Rattle.laws.specs.Choice.{pick}
use Rattle.binary_office.specs.declared.BiffRecord.{BiffRecord}
use Rattle.binary_office.specs.Walk.{walk_at, walk}
use Rattle.directory.specs.declared.Tally.{Tally}
use Rattle.directory.specs.Directory.{bound_sheets, bof_at, unpaired}

-- the pairing of BOF and EOF with one record more
abbrev pub paired_on : (n at id : ℕ) → Result ℕ ℕ
paired_on n at id =
    pick (eqb id 0x0809) (Ok (n + 1))
    (pick (eqb id 0x000A) (pick (eqb n 0) (Err at) (Ok (n - 1)))
    (Ok n))

abbrev pub paired_by : Result ℕ ℕ → (at id : ℕ) → Result ℕ ℕ
paired_by (Err offset) at id = Err offset
paired_by (Ok n) at id = paired_on n at id

-- how many BOF are open
abbrev pub depth : Result ℕ ℕ → ℕ
depth (Err offset) = 0
depth (Ok n) = n

-- the pairing with the records that are left
unfoldable pub pairing_by : Result ℕ ℕ → List BiffRecord → Result ℕ ℕ
pairing_by p [] = p
pairing_by p (r ∷ rs) = pairing_by (paired_by p r.at r.id) rs

-- what question 29 tells, where the records before paired up as given
abbrev pub unpaired_by : (size : ℕ) → Result ℕ ℕ → List BiffRecord → Option ℕ
unpaired_by size (Err offset) rs = Some offset
unpaired_by size (Ok n) rs = unpaired size n rs

-- what a walk of the whole stream tallies
unfoldable pub tally_of : List ℕ → Tally
tally_of stream =
    let w = walk stream in
    record { fault = w.fault; sheets = length (bound_sheets w.records); pairing = pairing_by (Ok 0) w.records }

-- the first BoundSheet8 record from an offset on, and those behind it
pub record Follows (stream : List ℕ) (from : ℕ) (r : BiffRecord) : Type 0 where
  pub first : bound_sheets (walk_at stream from).records ≡ r ∷ bound_sheets (walk_at stream (r.at + 4 + r.len)).records
  pub within : r.at + 4 + r.len ≤ length stream

abbrev pub NextSheet : (stream : List ℕ) → (from : ℕ) → Option BiffRecord → Type 0
NextSheet stream from None = bound_sheets (walk_at stream from).records ≡ []
NextSheet stream from (Some r) = Follows stream from r

-- an offset that the walk reaches: from there on it finds every BOF record that stands there or behind
pub record Reaches (stream : List ℕ) (from : ℕ) : Type 0 where
  pub inside : from ≤ length stream
  pub rest : (offset : ℕ) → from ≤ offset → bof_at (walk stream).records offset ≡ bof_at (walk_at stream from).records offset
