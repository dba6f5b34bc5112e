-- The questions of document 01 ("Open: the plain stream"), in its order and with its numbers beside them: each a test and what a "no" gives.
-- Those that another operation asks too have a name.
-- Assumes nothing.
use Rattle.std.specs.Option.{unwrap_or}
use Rattle.std.specs.Prelude.{ℕ, ◌+◌, ◌-◌, ◌*◌, ◌%◌, ◌^◌, Bool, false, not, ◌&&◌, ◌||◌, List, [], ◌∷◌, ◌++◌, eqb, leb, length, get_or, take, drop, Option, None, Some, is_none, is_some, Result, Ok, Err}
use Rattle.std.specs.Int.Bits.{bit_and}
use Rattle.laws.specs.Choice.{pick, within}
use Rattle.word.specs.Word.{le32}
use Rattle.sensitive.specs.Utf8.{well_formed}
use Rattle.binary_office.specs.declared.BiffRecord.{BiffRecord}
use Rattle.binary_office.specs.Walk.{walk, never_encrypted}
use Rattle.file_params.specs.declared.Refusal.{Refusal}
use Rattle.file_params.specs.declared.Refusal.TheVariants.{PasswordTooLong, PasswordMalformed, ScratchShort, StreamTooLarge, OutputShort, BiffRecordUnreadable, WorkbookBofMissing, NotEncrypted, FilepassOutOfOrder, FilepassTruncated, FilepassEncryptionType, EncryptionVersionInfoTruncated, UnsupportedEncryptionVersion, Rc4Office97HeaderTruncated, EncryptionInfoTruncated, EncryptionHeaderSizeOutOfRange, EncryptionHeaderSizeOutOfBounds, FlagExternal, FlagAes, FlagCryptoApiClear, UnsupportedAlgId, UnsupportedAlgIdHash, EncryptionHeaderKeySize, EncryptionVerifierTruncated, VerifierSaltSize, VerifierHashSize, WrongPassword}

pub record Question : Type 0 where
  pub yes : Bool
  pub no : Refusal

-- a row of the table
abbrev pub ask : Bool → Refusal → Question
ask t r = record { yes = t; no = r }

-- questions are asked from the top; the first "no" answers
unfoldable pub asked : List Question → Option Refusal
asked [] = None
asked (q ∷ qs) = pick q.yes (asked qs) (Some q.no)

-- what is told where no question refuses, or the first refusal
abbrev pub unless : {A : Type 0} → A → Option Refusal → Result A Refusal
unless told None = Ok told
unless told (Some refusal) = Err refusal

-- questions that arise only where a test holds
unfoldable pub only : Bool → List Question → List Question
only t qs = pick t qs []

-- of the stream's length
abbrev pub stream_fits : (stream : ℕ) → Question
stream_fits stream = ask (leb stream 1073741824) StreamTooLarge  -- 4

-- how much scratch question 3 wants (document 02, T-06: "at least 64")
abbrev pub scratch_need : ℕ
scratch_need = 64

-- of what is lent: the password, and the lengths of the stream, the scratch and the output, where a scratch of `need` bytes is wanted
unfoldable pub lent : (need : ℕ) → (password : List ℕ) → (stream scratch output : ℕ) → List Question
lent need password stream scratch output =
    ask (leb (length password) 1024) PasswordTooLong  -- 1
    ∷ ask (well_formed password) PasswordMalformed  -- 2
    ∷ ask (leb need scratch) ScratchShort  -- 3
    ∷ stream_fits stream  -- 4
    ∷ ask (leb stream output) OutputShort  -- 5
    ∷ []

-- whether the first record is BOF
abbrev pub starts_bof : List BiffRecord → Bool
starts_bof [] = false
starts_bof (r ∷ rs) = eqb r.id 0x0809

-- of the fault at which the walk ends, and of its first record
unfoldable pub in_order : (fault : Option ℕ) → List BiffRecord → List Question
in_order fault records =
    ask (is_none fault) (BiffRecordUnreadable (unwrap_or fault 0))  -- 6
    ∷ ask (starts_bof records) WorkbookBofMissing  -- 7
    ∷ []

-- the first FILEPASS
unfoldable pub filepass : List BiffRecord → Option BiffRecord
filepass [] = None
filepass (r ∷ rs) = pick (eqb r.id 0x002F) (Some r) (filepass rs)

-- the first id before it that is not one of the seven
unfoldable pub other_id : List BiffRecord → Option ℕ
other_id [] = None
other_id (r ∷ rs) = pick (eqb r.id 0x002F) None (pick (never_encrypted r.id) (other_id rs) (Some r.id))

-- of FILEPASS, and of what stands before it
unfoldable pub locked : List BiffRecord → List Question
locked records =
    ask (is_some (filepass records)) NotEncrypted  -- 8
    ∷ ask (is_none (other_id records)) (FilepassOutOfOrder (unwrap_or (other_id records) 0))  -- 9
    ∷ []

-- of the stream's records
unfoldable pub book : (stream : List ℕ) → List Question
book stream =
    in_order (walk stream).fault (walk stream).records  -- 6, 7
    ++ locked (walk stream).records  -- 8, 9

-- the body of the first FILEPASS, and the structure behind its type
abbrev pub body_of : List ℕ → Option BiffRecord → List ℕ
body_of stream None = []
body_of stream (Some r) = take r.len (drop (r.at + 4) stream)

unfoldable pub filepass_body : List ℕ → List ℕ
filepass_body stream = body_of stream (filepass (walk stream).records)

abbrev pub structure_of : List ℕ → List ℕ
structure_of body = drop 2 body

-- a field of two bytes; those of four are `le32`
abbrev pub le16 : List ℕ → ℕ → ℕ
le16 s at = get_or s at 0 + get_or s (at + 1) 0 * 2 ^ 8

abbrev pub type_of : List ℕ → ℕ
type_of body = le16 body 0

-- of its type
unfoldable pub encryption_type : (body : List ℕ) → List Question
encryption_type body =
    ask (leb 2 (length body)) (FilepassTruncated (length body) 2)  -- 10
    ∷ ask (not (eqb (type_of body) 0) || leb 6 (length body)) (FilepassTruncated (length body - 2) 4)  -- 10
    ∷ ask (leb (type_of body) 1) (FilepassEncryptionType (type_of body))  -- 11
    ∷ []

-- the version pair, and the two families that it chooses between
abbrev pub major_of : List ℕ → ℕ
major_of structure = le16 structure 0

abbrev pub minor_of : List ℕ → ℕ
minor_of structure = le16 structure 2

abbrev pub is_office97 : List ℕ → Bool
is_office97 structure = eqb (major_of structure) 1 && eqb (minor_of structure) 1

abbrev pub is_crypto_api : List ℕ → Bool
is_crypto_api structure = within 2 4 (major_of structure) && eqb (minor_of structure) 2

-- of the version
unfoldable pub version : (structure : List ℕ) → List Question
version structure =
    ask (leb 4 (length structure)) (EncryptionVersionInfoTruncated (length structure))  -- 12
    ∷ ask (is_office97 structure || is_crypto_api structure) (UnsupportedEncryptionVersion (major_of structure) (minor_of structure))  -- 13
    ∷ []

-- of a 1.1 structure
unfoldable pub office97 : (structure : List ℕ) → List Question
office97 structure = ask (leb 52 (length structure)) (Rc4Office97HeaderTruncated (length structure)) ∷ []  -- 14

-- the fields of a CryptoAPI structure: the header's from its byte 12 on, the verifier's behind the header
abbrev pub header_size : List ℕ → ℕ
header_size structure = le32 structure 8

abbrev pub header_flags : List ℕ → ℕ
header_flags structure = le32 structure 12

abbrev pub alg_id : List ℕ → ℕ
alg_id structure = le32 structure (12 + 8)

abbrev pub alg_id_hash : List ℕ → ℕ
alg_id_hash structure = le32 structure (12 + 12)

abbrev pub key_size : List ℕ → ℕ
key_size structure = le32 structure (12 + 16)

abbrev pub verifier_at : List ℕ → ℕ
verifier_at structure = 12 + header_size structure

abbrev pub salt_size : List ℕ → ℕ
salt_size structure = le32 structure (verifier_at structure)

abbrev pub verifier_hash_size : List ℕ → ℕ
verifier_hash_size structure = le32 structure (verifier_at structure + 36)

-- of a CryptoAPI structure
unfoldable pub crypto_api : (structure : List ℕ) → List Question
crypto_api structure =
    let flags = header_flags structure in
    let bits = key_size structure in
    ask (leb 12 (length structure)) (EncryptionInfoTruncated (length structure))  -- 15
    ∷ ask (within 32 1024 (header_size structure)) (EncryptionHeaderSizeOutOfRange (header_size structure))  -- 16
    ∷ ask (leb (verifier_at structure) (length structure)) (EncryptionHeaderSizeOutOfBounds (header_size structure) (length structure))  -- 17
    ∷ ask (eqb (bit_and flags 0x10) 0) (FlagExternal flags)  -- 18
    ∷ ask (eqb (bit_and flags 0x20) 0) (FlagAes flags)  -- 19
    ∷ ask (not (eqb (bit_and flags 0x04) 0)) (FlagCryptoApiClear flags)  -- 20
    ∷ ask (eqb (alg_id structure) 0 || eqb (alg_id structure) 0x6801) (UnsupportedAlgId (alg_id structure))  -- 21
    ∷ ask (eqb (alg_id_hash structure) 0 || eqb (alg_id_hash structure) 0x8004) (UnsupportedAlgIdHash (alg_id_hash structure))  -- 22
    ∷ ask (eqb bits 0 || (within 40 128 bits && eqb (bits % 8) 0)) (EncryptionHeaderKeySize bits)  -- 23
    ∷ ask (leb (verifier_at structure + 60) (length structure)) (EncryptionVerifierTruncated (length structure - verifier_at structure))  -- 24
    ∷ ask (eqb (salt_size structure) 16) (VerifierSaltSize (salt_size structure))  -- 25
    ∷ ask (eqb (verifier_hash_size structure) 20) (VerifierHashSize (verifier_hash_size structure))  -- 26
    ∷ []

-- of a structure of type 1
unfoldable pub rc4 : (structure : List ℕ) → List Question
rc4 structure = version structure ++ (only (is_office97 structure) (office97 structure) ++ only (is_crypto_api structure) (crypto_api structure))

-- of the FILEPASS body
unfoldable pub lock : (body : List ℕ) → List Question
lock body = encryption_type body ++ only (eqb (type_of body) 1) (rc4 (structure_of body))

-- of the stream alone, past its length
unfoldable pub of_stream : (stream : List ℕ) → List Question
of_stream stream =
    book stream  -- 6 to 9
    ++ lock (filepass_body stream)  -- 10 to 26

-- all of them; `passes` is whether the password passes the check of the lock
unfoldable pub questions : (need : ℕ) → (stream password scratch output : List ℕ) → (passes : Bool) → List Question
questions need stream password scratch output passes =
    lent need password (length stream) (length scratch) (length output)  -- 1 to 5
    ++ (of_stream stream  -- 6 to 26
    ++ (ask passes WrongPassword ∷ []))  -- 27
