-- Document 02, T-03: the key size that Look tells, case by case, and that the facts of key sizes 0 and 40 of one version agree. Both are stated over the bytes of
-- the FILEPASS body that a look reads.
-- Assumes nothing.
use Rattle.std.specs.Prelude.{◌≡◌, ℕ, zero, suc, ◌+◌, ◌≤◌, ◌<◌, Bool, true, false, not, ◌&&◌, ◌||◌, List, eqb, length, take, drop, Some, None, Option}
use Rattle.binary_office.specs.declared.Step.TheVariants as step
use Rattle.binary_office.specs.declared.Facts.{Facts}
use Rattle.binary_office.specs.declared.Verdict.{Verdict}
use Rattle.binary_office.specs.declared.Verdict.TheVariants.{Yes, No, Unknown}
use Rattle.binary_office.specs.Fields.{le16_at, le32_at}
use Rattle.binary_office.specs.Walk.{step_at, never_encrypted}
use Rattle.binary_office.specs.Look.{facts_of, look}
use Rattle.binary_office.specs.SameLock.{facts_agree}

-- the key size that a verdict reports
abbrev pub reported : Verdict → Option ℕ
reported Unknown = None
reported No = None
reported (Yes f) = f.key_size

-- whether the way from one offset to another leads over whole records of the seven ids only, none of them a FILEPASS. The first argument bounds their number.
unfoldable pub comes_from : ℕ → (book : List ℕ) → (from at : ℕ) → Bool
comes_from zero book from at = eqb from at
comes_from (suc n) book from at =
    eqb from at
    || elim (step_at book from) [
      | step.End ↦ false
      | step.Fault p ↦ false
      | step.Record id len ↦ not (eqb id 0x002F) && never_encrypted id && comes_from n book (from + 4 + len) at
    ]

-- a look that says yes, and the body whose facts it tells: that of the first FILEPASS, cut where Look stops reading
pub record LooksAt (stream body : List ℕ) : Type 0 where
  pub at : ℕ
  pub len : ℕ
  pub reached : comes_from (suc (length (take 1048576 stream))) (take 1048576 stream) 0 at ≡ true
  pub id : le16_at (take 1048576 stream) at ≡ Some 0x002F
  pub stated : le16_at (take 1048576 stream) (at + 2) ≡ Some len
  pub bytes : body ≡ take len (drop (at + 4) (take 1048576 stream))
  pub yes : look stream ≡ Yes (facts_of body)

-- a body of a type other than 0, with a version pair of major 2 to 4 and minor 2
pub record Versioned (body : List ℕ) (major : ℕ) : Type 0 where
  pub type : ℕ
  pub typed : le16_at body 0 ≡ Some type
  pub not_xor : type ≡ 0 → ⊥
  pub least : 2 ≤ major
  pub most : major ≤ 4
  pub major_there : le16_at body 2 ≡ Some major
  pub minor_there : le16_at body 4 ≡ Some 2

-- a look says yes exactly where the stream starts with BOF and the way from its front leads to a FILEPASS header; and it reads one body then
pub record OneBody : Type 0 where
  pub says_yes : (s : List ℕ) (at len : ℕ)
      → let book = take 1048576 s in
      le16_at book 0 ≡ Some 0x0809
      → comes_from (suc (length book)) book 0 at ≡ true → le16_at book at ≡ Some 0x002F → le16_at book (at + 2) ≡ Some len
      → look s ≡ Yes (facts_of (take len (drop (at + 4) book)))
  pub starts : (s : List ℕ) (f : Facts) → look s ≡ Yes f → le16_at (take 1048576 s) 0 ≡ Some 0x0809
  pub looked : (s : List ℕ) (f : Facts) → look s ≡ Yes f → (body : List ℕ) × LooksAt s body
  pub same : (s b c : List ℕ) → LooksAt s b → LooksAt s c → b ≡ c

-- the key size that a look at a body tells
pub record Told (s b : List ℕ) : Type 0 where
  -- "Look shall report 40 for 0,"
  pub zero : (major : ℕ) → Versioned b major → le32_at b 30 ≡ Some 0 → reported (look s) ≡ Some 40
  pub stated : (major k : ℕ) → Versioned b major → le32_at b 30 ≡ Some k → 1 ≤ k → k ≤ 4096 → reported (look s) ≡ Some k
  -- "and none above 4,096 as before."
  pub above : (k : ℕ) → le32_at b 30 ≡ Some k → 4096 < k → reported (look s) ≡ None
  -- none either where the four bytes are not all there, for type 0, and for another version
  pub cut : le32_at b 30 ≡ None → reported (look s) ≡ None
  pub xor : le16_at b 0 ≡ Some 0 → reported (look s) ≡ None
  pub other_major : (major : ℕ) → le16_at b 2 ≡ Some major → (2 ≤ major → major ≤ 4 → ⊥) → reported (look s) ≡ None
  pub other_minor : (minor : ℕ) → le16_at b 4 ≡ Some minor → (minor ≡ 2 → ⊥) → reported (look s) ≡ None

-- the facts of two streams whose bodies have one version
pub record TwoSizes (s t b c : List ℕ) : Type 0 where
  -- "Same lock follows, so a 0 and a 40 of one version now agree."
  pub agree : (major : ℕ) → Versioned b major → Versioned c major → le32_at b 30 ≡ Some 0 → le32_at c 30 ≡ Some 40 → facts_agree s t ≡ true
  -- a 0 and none do not: above 4,096, and where the four bytes are not all there
  pub above : (major k : ℕ) → Versioned b major → Versioned c major → le32_at b 30 ≡ Some 0 → le32_at c 30 ≡ Some k → 4096 < k → facts_agree s t ≡ false
  pub cut : (major : ℕ) → Versioned b major → Versioned c major → le32_at b 30 ≡ Some 0 → le32_at c 30 ≡ None → facts_agree s t ≡ false

pub record KeySizes : Type 0 where
  pub one_body : OneBody
  pub told : (s b : List ℕ) → LooksAt s b → Told s b
  pub two_sizes : (s t b c : List ℕ) → LooksAt s b → LooksAt t c → TwoSizes s t b c
  -- and so in the other order
  pub symmetric : (s t : List ℕ) → facts_agree s t ≡ facts_agree t s
