-- Sealing: document 02, T-07, with Open's definitions where it shares them. The questions are a table, and the sealed stream is given byte by byte.
-- Assumes nothing.
use Rattle.excel97.specs.declared.Report.{Report}
use Rattle.std.specs.Prelude.{◌≡◌, ℕ, ◌+◌, ◌-◌, ◌%◌, Bool, true, ◌&&◌, List, [], ◌∷◌, ◌++◌, eqb, leb, ltb, length, get_or, drop, Option, None, Some, Ok, Err, Result, is_some}
use Rattle.std.specs.Int.Bits.{bit_xor}
use Rattle.laws.specs.Choice.{pick, within}
use Rattle.laws.specs.Offsets.{map_at}
use Rattle.sensitive.specs.Ansi.{ansi}
use Rattle.xor_obfuscation.specs.declared.Way.TheVariants.{Encrypt}
use Rattle.binary_office.specs.declared.BiffRecord.{BiffRecord}
use Rattle.binary_office.specs.Walk.{walk, never_encrypted, all_zero}
use Rattle.file_params.specs.declared.Refusal.{Refusal}
use Rattle.file_params.specs.declared.Refusal.TheVariants.{UnsupportedEncryptionVersion, EncryptionHeaderKeySize, ZeroRecordMissing, ZeroRecordLength, XorPasswordUnfit}
use Rattle.file_params.specs.Refusal.{number}
use Rattle.file_params.specs.Questions.{Question, scratch_need, ask, asked, lent, in_order, body_of}
use Rattle.block_keys.specs.declared.Kind.TheVariants as kind
use Rattle.excel97.specs.Open.{keystream, array_of, xor_byte, record_at, in_record, blanked, report, wiped}
use Rattle.sealing.specs.declared.Choice.{Choice}
use Rattle.sealing.specs.declared.Choice.TheVariants.{Xor, Office97, CryptoApi}
use Rattle.sealing.specs.Filepass.{two, filepass_for}

-- "a zero record (id 0000, body all zero) with only the seven ids before it", none of them a FILEPASS
unfoldable pub zero_record : (plain : List ℕ) → List BiffRecord → Option BiffRecord
zero_record plain [] = None
zero_record plain (r ∷ rs) =
    pick (eqb r.id 0x002F) None
    (pick (never_encrypted r.id) (zero_record plain rs)
    (pick (eqb r.id 0 && all_zero (body_of plain (Some r))) (Some r) None))

abbrev pub zero_of : (plain : List ℕ) → Option BiffRecord
zero_of plain = zero_record plain (walk plain).records

-- what a choice admits, for CryptoAPI alone: "13 (major, 2), 23 (key size; 0 is refused)"
unfoldable pub admitted : Choice → List Question
admitted Xor = []
admitted Office97 = []
admitted (CryptoApi major bits) =
    ask (within 2 4 major) (UnsupportedEncryptionVersion major 2)  -- 13
    ∷ ask (within 40 128 bits && eqb (bits % 8) 0) (EncryptionHeaderKeySize bits)  -- 23
    ∷ []

-- "XOR wants a body of 6 bytes, 1.1 wants 54, CryptoAPI 106 to 1,098."
abbrev pub fits : Choice → (len : ℕ) → Bool
fits Xor len = eqb len 6
fits Office97 len = eqb len 54
fits (CryptoApi major bits) len = within 106 1098 len

-- the length of a record's body
abbrev pub len_of : Option BiffRecord → ℕ
len_of None = 0
len_of (Some r) = r.len

-- of the zero record: "30 no such zero record, or a FILEPASS before it; 31 body length unfit (length)"
unfoldable pub zeroed : Choice → Option BiffRecord → List Question
zeroed choice zero =
    ask (is_some zero) ZeroRecordMissing  -- 30
    ∷ ask (fits choice (len_of zero)) (ZeroRecordLength (len_of zero))  -- 31
    ∷ []

-- "32 XOR password outside 1 to 15 characters up to U+00FF"
abbrev pub takes : Choice → (password : List ℕ) → Bool
takes Xor password = is_some (ansi password)
takes Office97 password = true
takes (CryptoApi major bits) password = true

-- of the plain stream and the choice alone
unfoldable pub of_plain : (plain : List ℕ) → Choice → List Question
of_plain plain choice =
    in_order (walk plain).fault (walk plain).records  -- 6, 7
    ++ (admitted choice  -- 13, 23
    ++ zeroed choice (zero_of plain))  -- 30, 31

-- "Checks: 1 to 7 in order, 13, 23, then 30, 31, 32"
unfoldable pub seal_questions : (plain password : List ℕ) → Choice → (scratch output : List ℕ) → List Question
seal_questions plain password choice scratch output =
    lent scratch_need password (length plain) (length scratch) (length output)  -- 1 to 5
    ++ (of_plain plain choice  -- 6 to 31
    ++ (ask (takes choice password) XorPasswordUnfit ∷ []))  -- 32

-- a byte x of the enciphered part of a record, at an offset
unfoldable pub sealed_byte : Choice → (password salt : List ℕ) → BiffRecord → (offset x : ℕ) → ℕ
sealed_byte Xor password salt r offset x = xor_byte Encrypt (array_of (ansi password)) r offset x
sealed_byte Office97 password salt r offset x = bit_xor x (keystream password salt kind.Office97 40 offset)
sealed_byte (CryptoApi major bits) password salt r offset x = bit_xor x (keystream password salt kind.CryptoApi bits offset)

-- the new FILEPASS's byte at an offset of its id or its body: id 002F, the body, and between them the length as it was
abbrev pub filepass_byte : (body : List ℕ) → Option BiffRecord → (offset : ℕ) → ℕ
filepass_byte body None offset = 0
filepass_byte body (Some r) offset = pick (ltb offset (r.at + 2)) (get_or (two 0x002F) (offset - r.at) 0) (get_or body (offset - (r.at + 4)) 0)

-- the sealed byte at an offset, whose byte in the plain stream is x: headers, clear parts and what lies in no record are the plain stream's own
unfoldable pub sealed_at : (plain password : List ℕ) → Choice → (salt verifier : List ℕ) → (offset x : ℕ) → ℕ
sealed_at plain password choice salt verifier offset x =
    let zero = zero_of plain in
    pick (blanked zero offset) (filepass_byte (filepass_for choice password salt verifier (len_of zero)) zero offset)
    (in_record (sealed_byte choice password salt) (record_at (walk plain).records offset) offset x)

unfoldable pub sealed : (plain password : List ℕ) → Choice → (salt verifier : List ℕ) → List ℕ
sealed plain password choice salt verifier = map_at (sealed_at plain password choice salt verifier) 0 plain

-- the outcome: the answer, and scratch and output at exit
pub record Outcome : Type 0 where
  pub answer : Result Report Refusal
  pub scratch : List ℕ
  pub output : List ℕ

-- "Success reports what opening the sealed stream would; buffers follow Open's rules."
abbrev pub outcome_by : (plain password : List ℕ) → Choice → (salt verifier scratch output : List ℕ) → Option Refusal → Outcome
outcome_by plain password choice salt verifier scratch output None =
    record {
      answer = Ok (report (sealed plain password choice salt verifier));
      scratch = wiped scratch_need scratch;
      output = sealed plain password choice salt verifier ++ drop (length plain) output;
    }
outcome_by plain password choice salt verifier scratch output (Some r) =
    record { answer = Err r; scratch = pick (leb (number r) 5) scratch (wiped scratch_need scratch); output = output }

unfoldable pub outcome : (plain password : List ℕ) → Choice → (salt verifier scratch output : List ℕ) → Outcome
outcome plain password choice salt verifier scratch output =
    outcome_by plain password choice salt verifier scratch output (asked (seal_questions plain password choice scratch output))

-- what `seal` promises
pub record Seals (plain password : List ℕ) (choice : Choice) (salt verifier scratch output : List ℕ) (answer : Result Report Refusal) (scratch' output' : List ℕ) : Type 0 where
  pub answered : answer ≡ (outcome plain password choice salt verifier scratch output).answer
  pub scratch_left : scratch' ≡ (outcome plain password choice salt verifier scratch output).scratch
  pub output_left : output' ≡ (outcome plain password choice salt verifier scratch output).output
