-- Look of document 01 ("Look: is the book locked"), with key size 0 as document 02 has it (T-03).
-- Assumes nothing.
use Rattle.std.specs.Prelude.{ℕ, zero, suc, ◌+◌, true, false, not, ◌&&◌, List, eqb, leb, length, take, drop, Some, None, Option}
use Rattle.laws.specs.Choice.{pick, within}
use Rattle.binary_office.specs.Fields.{le16_at, le32_at}
use Rattle.binary_office.specs.Walk.{never_encrypted}
use Rattle.binary_office.specs.declared.Version.{Version}
use Rattle.binary_office.specs.declared.Facts.{Facts}
use Rattle.binary_office.specs.declared.Finding.{Finding}
use Rattle.binary_office.specs.declared.Finding.TheVariants.{Filepass, Other, Unreadable}
use Rattle.binary_office.specs.declared.Verdict.{Verdict}
use Rattle.binary_office.specs.declared.Verdict.TheVariants.{Yes, No, Unknown}

-- the version pair at body bytes 2 to 5, if present
abbrev pub pair_of : Option ℕ → Option ℕ → Option Version
pair_of None minor = None
pair_of (Some major) None = None
pair_of (Some major) (Some minor) = Some (record { major = major; minor = minor })

unfoldable pub version_of : List ℕ → Option Version
version_of body = pair_of (le16_at body 2) (le16_at body 4)

-- the four-byte key size at body byte 30, for major 2 to 4 with minor 2: 40 if it is 0 (document 02, T-03, by MS-OFFCRYPTO 2.3.5.1), itself if it is 1 to 4096
unfoldable pub bits_of : ℕ → Option ℕ
bits_of k = pick (eqb k 0) (Some 40) (pick (within 1 4096 k) (Some k) None)

abbrev pub bits_in : Option ℕ → Option ℕ
bits_in None = None
bits_in (Some k) = bits_of k

abbrev pub size_of : List ℕ → Option Version → Option ℕ
size_of body None = None
size_of body (Some version) = pick (within 2 4 version.major && eqb version.minor 2) (bits_in (le32_at body 30)) None

-- body type 0 is XOR; any other type gives the version and the key size; missing facts are none
abbrev pub by_type : List ℕ → Option ℕ → Facts
by_type body None = record { xor = false; version = None; key_size = None }
by_type body (Some t) =
    pick (eqb t 0) (record { xor = true; version = None; key_size = None })
    (record { xor = false; version = version_of body; key_size = size_of body (version_of body) })

unfoldable pub facts_of : List ℕ → Facts
facts_of body = by_type body (le16_at body 0)

-- the scan stops at the first of three findings. A full header is judged by its id before its length: FILEPASS, even if its body is cut, by where the body
-- starts and the length that the header states; an id outside the seven; a header cut short, or a body past the end. `on` is the scan from the next header.
abbrev pub judged : List ℕ → ℕ → ℕ → ℕ → (ℕ → Finding) → Finding
judged s at id len on =
    pick (eqb id 0x002F) (Filepass (at + 4) len)
    (pick (not (never_encrypted id)) Other
    (pick (leb (at + 4 + len) (length s)) (on (at + 4 + len))
    Unreadable))

abbrev pub scan_by_length : List ℕ → ℕ → ℕ → (ℕ → Finding) → Option ℕ → Finding
scan_by_length s at id on None = Unreadable
scan_by_length s at id on (Some len) = judged s at id len on

abbrev pub scan_by_id : List ℕ → ℕ → (ℕ → Finding) → Option ℕ → Finding
scan_by_id s at on None = Unreadable
scan_by_id s at on (Some id) = scan_by_length s at id on (le16_at s (at + 2))

-- the first argument bounds the number of headers
unfoldable pub scan_from : ℕ → List ℕ → ℕ → Finding
scan_from zero s at = Unreadable
scan_from (suc f) s at = scan_by_id s at (scan_from f s) (le16_at s at)

unfoldable pub scan_at : List ℕ → ℕ → Finding
scan_at s at = scan_from (suc (length s)) s at

-- the first two bytes must be BOF, else unknown
abbrev pub from_bof : List ℕ → Option ℕ → Finding
from_bof s None = Unreadable
from_bof s (Some id) = pick (eqb id 0x0809) (scan_at s 0) Unreadable

unfoldable pub found : (book : List ℕ) → Finding
found book = from_bof book (le16_at book 0)

-- FILEPASS is yes, with the facts of as much of the body as is there; an id outside the seven is no; what can't be read is unknown
abbrev pub verdict_of : (book : List ℕ) → Finding → Verdict
verdict_of book (Filepass start len) = Yes (facts_of (take len (drop start book)))
verdict_of book Other = No
verdict_of book Unreadable = Unknown

-- only the first 1,048,576 bytes are read
abbrev pub capped : (stream : List ℕ) → List ℕ
capped stream = take 1048576 stream

unfoldable pub look : List ℕ → Verdict
look s = verdict_of (capped s) (found (capped s))
