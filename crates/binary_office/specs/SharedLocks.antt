-- Document 02, T-08: what Same lock says of two streams, by the FILEPASS bodies that their looks read, and beside Same lock of document 01 (`facts_agree`).
-- Assumes nothing.
use Rattle.std.specs.Prelude.{◌≡◌, ℕ, true, false, List, take, Some}
use Rattle.binary_office.specs.declared.Facts.{Facts}
use Rattle.binary_office.specs.declared.Verdict.TheVariants.{Yes}
use Rattle.binary_office.specs.Fields.{le32_at}
use Rattle.binary_office.specs.Look.{look}
use Rattle.binary_office.specs.KeySizes.{LooksAt}
use Rattle.binary_office.specs.SameLock.{facts_agree, capped_body, same_lock}

-- two streams whose looks say yes, and the bodies that they read
pub record TwoBodies (s t b c : List ℕ) : Type 0 where
  -- their locks are the same exactly where the bodies are equal: equal bodies have equal facts
  pub equal : b ≡ c → same_lock s t ≡ true
  pub only_equal : same_lock s t ≡ true → b ≡ c
  -- "key sizes 0 and 40 part again", of any two versions and in both orders
  pub sizes_part : (f g : Facts) (major minor other_major other_minor : ℕ)
      → look s ≡ Yes f → f.version ≡ Some (record { major = major; minor = minor }) → look t ≡ Yes g → g.version ≡ Some (record { major = other_major; minor = other_minor })
      → le32_at b 30 ≡ Some 0 → le32_at c 30 ≡ Some 40
      → (same_lock s t ≡ false) × (same_lock t s ≡ false)

pub record SharedLocks : Type 0 where
  -- the facts compared so far agree exactly where both looks say yes, with the same facts
  pub agree : (s t : List ℕ) (f : Facts) → look s ≡ Yes f → look t ≡ Yes f → facts_agree s t ≡ true
  pub agree_only : (s t : List ℕ) → facts_agree s t ≡ true → (f : Facts) × (look s ≡ Yes f) × (look t ≡ Yes f)
  -- "Any pair called the same now was called the same before"
  pub before : (s t : List ℕ) → same_lock s t ≡ true → facts_agree s t ≡ true
  -- it is symmetric and transitive, and true of a stream and itself exactly where its look says yes
  pub symmetric : (s t : List ℕ) → same_lock s t ≡ same_lock t s
  pub transitive : (s t u : List ℕ) → same_lock s t ≡ true → same_lock t u ≡ true → same_lock s u ≡ true
  pub itself : (s : List ℕ) (f : Facts) → look s ≡ Yes f → same_lock s s ≡ true
  pub itself_only : (s : List ℕ) → same_lock s s ≡ true → (f : Facts) × (look s ≡ Yes f)
  -- the body of the definition is the one that the look reads
  pub body : (s b : List ℕ) → LooksAt s b → capped_body s ≡ b
  pub two_bodies : (s t b c : List ℕ) → LooksAt s b → LooksAt t c → TwoBodies s t b c
  -- nothing past the first 1,048,576 bytes decides
  pub capped : (s t : List ℕ) → same_lock (take 1048576 s) (take 1048576 t) ≡ same_lock s t
