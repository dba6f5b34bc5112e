-- How the password's bytes go to the block: what is to come at a place of the text, and what a step and a filled block say of it.
-- The contracts of the private functions cite these.
-- Assumes nothing.
use Rattle.std.specs.Prelude.{◌≡◌, ℕ, ◌+◌, ◌-◌, ◌*◌, ◌<◌, ◌≤◌, List, [], ◌∷◌, ◌++◌, length, take, drop, replicate, nat_le, Option, Some, None}
use Rattle.laws.specs.Choice.{pick}
use Rattle.sensitive.specs.Utf8.{points_from}
use Rattle.sensitive.specs.Utf16.{utf16le, utf16les}
use Rattle.password_digest.specs.declared.place.Place.{Place}
use Rattle.password_digest.specs.Digest.{fits}

-- the bytes to come at a place: those of the characters from `at` on, of the first of which `skip` bytes, and not all, are out
pub record Comes (s : List ℕ) (at skip : ℕ) (rest : List ℕ) : Type 0 where
  pub fuel : ℕ
  pub points : List ℕ
  pub ahead : points_from fuel s at ≡ Some points
  pub inside : (p : ℕ) (ps : List ℕ) → points ≡ p ∷ ps → skip < length (utf16le p)
  pub bytes : rest ≡ drop skip (utf16les points)

-- a number that goes down with each byte that is taken
abbrev pub left : List ℕ → ℕ → ℕ → ℕ
left s at skip = 4 * (length s - at) + (4 - skip)

-- b is the first byte to come, and the place behind it has the rest
pub record Byte (s : List ℕ) (at skip b at' skip' : ℕ) : Type 0 where
  pub nearer : left s at' skip' < left s at skip
  pub first : (rest : List ℕ) → Comes s at skip rest → (rest' : List ℕ) × (rest ≡ b ∷ rest') × Comes s at' skip' rest'

-- nothing is to come
abbrev pub Ends : List ℕ → ℕ → ℕ → Type 0
Ends s at skip = (rest : List ℕ) → Comes s at skip rest → rest ≡ []

-- a step finds the first byte to come and the place behind it, or that there is none
abbrev pub Steps : List ℕ → ℕ → ℕ → Option (ℕ × Place) → Type 0
Steps s at skip (Some p) = Byte s at skip p.0 p.1.at p.1.skip
Steps s at skip None = Ends s at skip

-- m is what the block's first n bytes and the bytes to come make
pub record Goes (s block : List ℕ) (at skip n : ℕ) (m : List ℕ) : Type 0 where
  pub rest : List ℕ
  pub comes : Comes s at skip rest
  pub parts : m ≡ take n block ++ rest

-- a block is filled: with what it has and what is to come it makes the same, and where it is not full nothing is to come
pub record Fills (s : List ℕ) (block : List ℕ) (at skip n : ℕ) (block' : List ℕ) (at' skip' n' : ℕ) : Type 0 where
  pub fewer : left s at' skip' + n' ≤ left s at skip + n
  pub goes : (m : List ℕ) → Goes s block at skip n m → Goes s block' at' skip' n' m
  pub all : n' < 64 → (m : List ℕ) → Goes s block at skip n m → m ≡ take n' block'

-- what the function for any hash answers and leaves: as the two of `Digest`
pub record Answers {D : Type 0} (digest : D) (password scratch : List ℕ) (told : Option D) (scratch' : List ℕ) : Type 0 where
  pub digested : told ≡ pick (fits password scratch) (Some digest) None
  pub wiped : scratch' ≡ pick (nat_le 64 (length scratch)) (replicate 64 0 ++ drop 64 scratch) scratch
