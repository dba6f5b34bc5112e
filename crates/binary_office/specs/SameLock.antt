-- Same lock of document 01 ("Look: is the book locked"), and as document 02 has it (T-08), which adds the FILEPASS bodies.
-- Assumes nothing.
use Rattle.std.specs.Prelude.{ℕ, Bool, true, false, ◌&&◌, List, [], ◌∷◌, eqb, take, drop, Some, None, Option}
use Rattle.std.specs.Bool.{beq}
use Rattle.binary_office.specs.Look.{found, capped, look}
use Rattle.binary_office.specs.declared.Version.{Version}
use Rattle.binary_office.specs.declared.Facts.{Facts}
use Rattle.binary_office.specs.declared.Finding.{Finding}
use Rattle.binary_office.specs.declared.Finding.TheVariants.{Filepass, Other, Unreadable}
use Rattle.binary_office.specs.declared.Verdict.{Verdict}
use Rattle.binary_office.specs.declared.Verdict.TheVariants.{Yes, No, Unknown}

-- "true when both looks say yes and their XOR mark, version and key size agree"
abbrev pub same_version : (Option Version) → Option Version → Bool
same_version None None = true
same_version None (Some w) = false
same_version (Some v) None = false
same_version (Some v) (Some w) = eqb v.major w.major && eqb v.minor w.minor

abbrev pub same_size : Option ℕ → Option ℕ → Bool
same_size None None = true
same_size None (Some b) = false
same_size (Some a) None = false
same_size (Some a) (Some b) = eqb a b

abbrev pub same_facts : Facts → Facts → Bool
same_facts f g = beq f.xor g.xor && same_version f.version g.version && same_size f.key_size g.key_size

abbrev pub same_verdict : Verdict → Verdict → Bool
same_verdict Unknown w = false
same_verdict No w = false
same_verdict (Yes f) Unknown = false
same_verdict (Yes f) No = false
same_verdict (Yes f) (Yes g) = same_facts f g

-- Same lock of document 01: "the facts compared so far agree"
unfoldable pub facts_agree : List ℕ → List ℕ → Bool
facts_agree s t = same_verdict (look s) (look t)

-- the FILEPASS body of a stream whose look says yes: "all its bytes within the stream's first 1,048,576, whatever length its header states"
abbrev pub body_found : (book : List ℕ) → Finding → List ℕ
body_found book (Filepass start len) = take len (drop start book)
body_found book Other = []
body_found book Unreadable = []

unfoldable pub capped_body : (stream : List ℕ) → List ℕ
capped_body s = body_found (capped s) (found (capped s))

-- "equal byte for byte"
unfoldable pub same_bytes : List ℕ → List ℕ → Bool
same_bytes [] [] = true
same_bytes [] (y ∷ ys) = false
same_bytes (x ∷ xs) [] = false
same_bytes (x ∷ xs) (y ∷ ys) = eqb x y && same_bytes xs ys

-- "Two locks shall be the same exactly when the facts compared so far agree and their FILEPASS bodies are equal byte for byte"
unfoldable pub same_lock : List ℕ → List ℕ → Bool
same_lock s t = facts_agree s t && same_bytes (capped_body s) (capped_body t)
