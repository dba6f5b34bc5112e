-- Open: document 01 ("Open: the plain stream", "The three locks"), with MS-XLS 2.2.10 (which bytes are enciphered), 2.4.117 (FilePass) and
-- MS-OFFCRYPTO 2.3.5 to 2.3.7 (the locks). The questions are `file_params`' table.
-- Assumes nothing.
use Rattle.std.specs.Prelude.{◌≡◌, ℕ, ◌+◌, ◌-◌, Bool, false, ◌&&◌, ◌||◌, List, [], ◌∷◌, ◌++◌, eqb, leb, ltb, length, drop, replicate, Option, None, Some, Ok, Err, Result}
use Rattle.std.specs.Int.Bits.{bit_xor}
use Rattle.laws.specs.Choice.{pick}
use Rattle.laws.specs.Offsets.{map_at}
use Rattle.sensitive.specs.Ansi.{ansi}
use Rattle.xor_obfuscation.specs.declared.Way.{Way}
use Rattle.xor_obfuscation.specs.declared.Way.TheVariants.{Decrypt}
use Rattle.xor_obfuscation.specs.Xor.{password_verifier, xor_key, xor_array, transformed}
use Rattle.binary_office.specs.declared.BiffRecord.{BiffRecord}
use Rattle.binary_office.specs.Walk.{walk, clear_len}
use Rattle.file_params.specs.declared.Refusal.{Refusal}
use Rattle.file_params.specs.Refusal.{number}
use Rattle.file_params.specs.Questions.{scratch_need, asked, questions, filepass, filepass_body, type_of, structure_of, le16}
use Rattle.block_keys.specs.declared.Kind.{Kind}
use Rattle.block_keys.specs.declared.Kind.TheVariants as kind
use Rattle.block_keys.specs.BlockKeys.{schedule_of, block_key, keystream_at, verified}
use Rattle.block_keys.specs.Lock.{lock_of, part, salt_of}
use Rattle.survey.specs.Survey.{enciphered_bytes, block_keys}
use Rattle.excel97.specs.declared.Lock.{Lock}
use Rattle.excel97.specs.declared.Lock.TheVariants.{Xor, Office97, CryptoApi}
use Rattle.excel97.specs.declared.Report.{Report}

-- XOR: the password's bytes where it has 1 to 15 characters up to U+00FF; key and verifier must both match those at body bytes 2 and 4
abbrev pub xor_matches : (body : List ℕ) → Option (List ℕ) → Bool
xor_matches body None = false
xor_matches body (Some p) = eqb (xor_key p) (le16 body 2) && eqb (password_verifier p) (le16 body 4)

-- RC4: the check of the structure's verifier and hash
abbrev pub rc4_matches : (structure password : List ℕ) → Bool
rc4_matches structure password =
    let l = lock_of structure in
    verified (schedule_of l.kind l.key_bits (salt_of structure) password) (part structure l.verifier 16) (part structure l.hash 20)

-- question 27: the password check, from the FILEPASS body and the password
unfoldable pub passes : (body password : List ℕ) → Bool
passes body password = pick (eqb (type_of body) 0) (xor_matches body (ansi password)) (rc4_matches (structure_of body) password)

-- the keystream byte for an offset: password, salt, lock, key size and offset alone determine it. Blocks are 1,024 bytes (MS-XLS 2.2.10).
unfoldable pub keystream : (password salt : List ℕ) → (lock : Kind) → (bits offset : ℕ) → ℕ
keystream password salt lock bits offset = keystream_at 1024 (block_key (schedule_of lock bits salt password)) offset

-- the array of an XOR password
abbrev pub array_of : Option (List ℕ) → List ℕ
array_of None = replicate 16 0
array_of (Some p) = xor_array p (xor_key p)

-- a byte x of the enciphered part of a record, at an offset: under XOR the first uses array index (body end + clear) mod 16, each later one the next. Opening
-- deciphers it, sealing enciphers it.
unfoldable pub xor_byte : Way → (array : List ℕ) → BiffRecord → (offset x : ℕ) → ℕ
xor_byte way array r offset x =
    let clear = clear_len r.id r.len in
    transformed way array (r.at + 4 + r.len + clear) (offset - (r.at + 4 + clear)) x

abbrev pub rc4_byte : (structure password : List ℕ) → (offset x : ℕ) → ℕ
rc4_byte structure password offset x = bit_xor x (keystream password (salt_of structure) (lock_of structure).kind (lock_of structure).key_bits offset)

unfoldable pub plain_byte : (body password : List ℕ) → BiffRecord → (offset x : ℕ) → ℕ
plain_byte body password r offset x = pick (eqb (type_of body) 0) (xor_byte Decrypt (array_of (ansi password)) r offset x) (rc4_byte (structure_of body) password offset x)

-- the record that an offset lies in
abbrev pub covers : BiffRecord → ℕ → Bool
covers r offset = leb r.at offset && ltb offset (r.at + 4 + r.len)

unfoldable pub record_at : List BiffRecord → ℕ → Option BiffRecord
record_at [] offset = None
record_at (r ∷ rs) offset = pick (covers r offset) (Some r) (record_at rs offset)

-- headers and clear parts are the stream's own, and so is what lies in no record; the rest is deciphered
abbrev pub in_header_or_clear : BiffRecord → ℕ → Bool
in_header_or_clear r offset = ltb offset (r.at + 4 + clear_len r.id r.len)

abbrev pub in_record : (BiffRecord → ℕ → ℕ → ℕ) → Option BiffRecord → (offset x : ℕ) → ℕ
in_record decipher None offset x = x
in_record decipher (Some r) offset x = pick (in_header_or_clear r offset) x (decipher r offset x)

-- the first FILEPASS gets id 0000 and a zero body; its length stays
abbrev pub blanked : Option BiffRecord → ℕ → Bool
blanked None offset = false
blanked (Some r) offset = (leb r.at offset && ltb offset (r.at + 2)) || (leb (r.at + 4) offset && ltb offset (r.at + 4 + r.len))

-- the plain byte at an offset, whose byte in the stream is x
unfoldable pub plain_at : (stream password : List ℕ) → (offset x : ℕ) → ℕ
plain_at stream password offset x =
    let records = (walk stream).records in
    pick (blanked (filepass records) offset) 0 (in_record (plain_byte (filepass_body stream) password) (record_at records offset) offset x)

unfoldable pub plain : (stream password : List ℕ) → List ℕ
plain stream password = map_at (plain_at stream password) 0 stream

-- the report: the record count, the lock, its key bits (0 for XOR, 40 for 1.1), whether the summary is sealed; and behind them what opening takes (document
-- 02, T-04: "Open on success reports the same four"), as the stream alone tells it
abbrev pub by_kind : Kind → Lock
by_kind kind.Office97 = Office97
by_kind kind.CryptoApi = CryptoApi

abbrev pub xor_report : (records bytes enciphered keys : ℕ) → Report
xor_report records bytes enciphered keys =
    record {
      records = records;
      lock = Xor;
      key_bits = 0;
      summary_sealed = false;
      output_bytes = bytes;
      enciphered_body_bytes = enciphered;
      block_keys = keys;
    }

abbrev pub rc4_report : (structure : List ℕ) → (records bytes enciphered keys : ℕ) → Report
rc4_report structure records bytes enciphered keys =
    let l = lock_of structure in
    record {
      records = records;
      lock = by_kind l.kind;
      key_bits = l.key_bits;
      summary_sealed = l.summary_sealed;
      output_bytes = bytes;
      enciphered_body_bytes = enciphered;
      block_keys = keys;
    }

unfoldable pub report : (stream : List ℕ) → Report
report stream =
    let body = filepass_body stream in
    let records = (walk stream).records in
    let of = pick (eqb (type_of body) 0) xor_report (rc4_report (structure_of body)) in
    of (length records) (length stream) (enciphered_bytes records) (block_keys body (length stream))

-- the outcome: the answer, and scratch and output at exit
pub record Outcome : Type 0 where
  pub answer : Result Report Refusal
  pub scratch : List ℕ
  pub output : List ℕ

-- from question 6 on as many scratch bytes as are wanted end zero, from the first on, and the rest is untouched
abbrev pub wiped : (need : ℕ) → List ℕ → List ℕ
wiped need scratch = replicate need 0 ++ drop need scratch

abbrev pub outcome_by : (need : ℕ) → (stream password scratch output : List ℕ) → Option Refusal → Outcome
outcome_by need stream password scratch output None =
    record { answer = Ok (report stream); scratch = wiped need scratch; output = plain stream password ++ drop (length stream) output }
outcome_by need stream password scratch output (Some r) =
    record { answer = Err r; scratch = pick (leb (number r) 5) scratch (wiped need scratch); output = output }

-- where a scratch of `need` bytes is wanted
unfoldable pub outcome_with : (need : ℕ) → (stream password scratch output : List ℕ) → Outcome
outcome_with need stream password scratch output =
    outcome_by need stream password scratch output (asked (questions need stream password scratch output (passes (filepass_body stream) password)))

pub record OpensWith (need : ℕ) (stream password scratch output : List ℕ) (answer : Result Report Refusal) (scratch' output' : List ℕ) : Type 0 where
  pub answered : answer ≡ (outcome_with need stream password scratch output).answer
  pub scratch_left : scratch' ≡ (outcome_with need stream password scratch output).scratch
  pub output_left : output' ≡ (outcome_with need stream password scratch output).output

-- the outcome of `open`, and what it promises
abbrev pub outcome : (stream password scratch output : List ℕ) → Outcome
outcome = outcome_with scratch_need

abbrev pub Opens : (stream password scratch output : List ℕ) → Result Report Refusal → (scratch' output' : List ℕ) → Type 0
Opens = OpensWith scratch_need
