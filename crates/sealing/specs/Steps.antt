-- What the private functions of sealing answer, in terms of its definitions. Nothing that is promised outside rests on this file.
-- Assumes nothing.
use Rattle.excel97.specs.declared.Report.{Report}
use Rattle.std.specs.Prelude.{◌≡◌, ℕ, ◌+◌, ◌-◌, ◌≤◌, ◌<◌, true, false, List, [], ◌∷◌, ◌++◌, length, get_or, take, drop, replicate, Option, None, Some, Result}
use Rattle.laws.proofs.Written.{Written}
use Rattle.sensitive.specs.Utf8.{well_formed}
use Rattle.binary_office.specs.declared.BiffRecord.{BiffRecord}
use Rattle.binary_office.specs.Walk.{walk, zero_bytes}
use Rattle.file_params.specs.declared.Refusal.{Refusal}
use Rattle.file_params.specs.declared.Refusal.TheVariants.{XorPasswordUnfit}
use Rattle.file_params.specs.Questions.{ask, asked}
use Rattle.block_keys.specs.declared.Schedule.{Schedule}
use Rattle.block_keys.specs.BlockKeys.{encrypted_verifier, encrypted_verifier_hash, started_blocks, digest_len}
use Rattle.survey.specs.declared.Counts.{Counts}
use Rattle.survey.specs.Survey.{counts_of}
use Rattle.excel97.specs.Open.{blanked}
use Rattle.excel97.specs.Steps.{through_at, rc4_at}
use Rattle.sealing.specs.declared.Choice.{Choice}
use Rattle.sealing.specs.declared.Enciphered.{Enciphered}
use Rattle.sealing.specs.Filepass.{two, four, header_fields, header_len}
use Rattle.sealing.specs.Seal.{zero_of, of_plain, takes, outcome_by}

-- bytes put into an output, from an offset on
abbrev pub Put : (bytes : List ℕ) → (at : ℕ) → (d d' : List ℕ) → Type 0
Put bytes at d d' = Written (λ (o : ℕ). get_or bytes (o - at) 0) at (at + length bytes) d d'

-- the bodies by what stands in their fields
abbrev pub xor_fields : (key verifier : ℕ) → List ℕ
xor_fields key verifier = two 0 ++ (two key ++ two verifier)

abbrev pub office97_fields : (salt verifier hash : List ℕ) → List ℕ
office97_fields salt verifier hash = two 1 ++ (two 1 ++ (two 1 ++ (salt ++ (verifier ++ take 16 hash))))

abbrev pub crypto_api_head : (major bits size : ℕ) → List ℕ
crypto_api_head major bits size = two 1 ++ (two major ++ (two 2 ++ (four 0x0C ++ (four size ++ header_fields bits))))

abbrev pub crypto_api_fields : (major bits len : ℕ) → (salt verifier hash : List ℕ) → List ℕ
crypto_api_fields major bits len salt verifier hash =
    crypto_api_head major bits (header_len len) ++ (zero_bytes (len - 106) ++ (four 16 ++ (salt ++ (verifier ++ (four 20 ++ hash)))))

-- a plain stream with a record of so many bytes at an offset, and an output with room for it
pub record Room (plain output : List ℕ) (at len : ℕ) : Type 0 where
  pub inside : at + 4 + len ≤ length plain
  pub room : length plain ≤ length output

-- the record at an offset
abbrev pub at_place : (at len : ℕ) → Option BiffRecord
at_place at len = Some (record { at = at; id = 0; len = len })

-- what sealing leaves in an output: the records put through a function, and over them the new FILEPASS's id and body
pub record Locks (plain : List ℕ) (at len : ℕ) (f : BiffRecord → ℕ → ℕ → ℕ) (body d d' : List ℕ) : Type 0 where
  pub same : length d' ≡ length d
  pub id : (o : ℕ) → at ≤ o → o < at + 2 → get_or d' o 0 ≡ get_or (two 0x002F) (o - at) 0
  pub written : (o : ℕ) → at + 4 ≤ o → o < at + 4 + len → get_or d' o 0 ≡ get_or body (o - (at + 4)) 0
  pub through : (o : ℕ) → o < length plain → blanked (at_place at len) o ≡ false → get_or d' o 0 ≡ through_at plain f o
  pub after : (o : ℕ) → length plain ≤ o → get_or d' o 0 ≡ get_or d o 0

-- what putting a stream through RC4 for sealing leaves and tells
pub record Enciphers (s : Schedule) (plain verifier scratch output : List ℕ) (r : Enciphered) (scratch' output' : List ℕ) : Type 0 where
  pub verifier_told : r.encrypted.verifier ≡ encrypted_verifier s verifier
  pub hash_told : r.encrypted.hash ≡ encrypted_verifier_hash s verifier ++ replicate (20 - digest_len s.kind) 0
  pub keys : r.keys ≡ 1 + started_blocks 1024 (length plain)
  pub scratch_left : scratch' ≡ replicate 64 0 ++ drop 64 scratch
  pub through : Written (through_at plain (rc4_at s)) 0 (length plain) output output'

-- what sealing under RC4 leaves and tells
pub record LocksRc4 (plain : List ℕ) (at len : ℕ) (s : Schedule) (body scratch output : List ℕ) (keys : ℕ) (scratch' output' : List ℕ) : Type 0 where
  pub locks : Locks plain at len (rc4_at s) body output output'
  pub counted : keys ≡ 1 + started_blocks 1024 (length plain)
  pub scratch_left : scratch' ≡ replicate 64 0 ++ drop 64 scratch

-- a plain stream whose questions up to 31 are passed, with its counts and its zero record
pub record Ready (plain : List ℕ) (choice : Choice) (password scratch output : List ℕ) (counts : Counts) (zero : BiffRecord) : Type 0 where
  pub passed : None ≡ asked (of_plain plain choice)
  pub found : zero_of plain ≡ Some zero
  pub room : length plain ≤ length output
  pub counted : counts ≡ counts_of (walk plain)
  pub password_well_formed : well_formed password ≡ true
  pub enough : 64 ≤ length scratch

-- questions 6 to 32
abbrev pub later_refusal : (plain password : List ℕ) → Choice → Option Refusal
later_refusal plain password choice = asked (of_plain plain choice ++ (ask (takes choice password) XorPasswordUnfit ∷ []))

-- what is settled once questions 1 to 5 are passed; of the scratch, only the first 64 bytes change
pub record Settles (plain password : List ℕ) (choice : Choice) (salt verifier scratch output : List ℕ) (answer : Result Report Refusal) (scratch' output' : List ℕ) : Type 0 where
  pub answered : answer ≡ (outcome_by plain password choice salt verifier scratch output (later_refusal plain password choice)).answer
  pub same : length scratch' ≡ length scratch
  pub kept : drop 64 scratch' ≡ drop 64 scratch
  pub output_left : output' ≡ (outcome_by plain password choice salt verifier scratch output (later_refusal plain password choice)).output
