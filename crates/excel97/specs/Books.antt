-- The cases of document 01's "Short books" that are marked P, in its order: what Look says of each stream, and what Open answers and leaves.
-- The document's B, 09 08 00 00, is written out.
-- Assumes nothing.
use Rattle.excel97.specs.declared.Report.{Report}
use Rattle.std.specs.Prelude.{ℕ, ◌+◌, true, false, List, [], ◌∷◌, ◌++◌, length, replicate, None, Ok, Err, Result, Some}
use Rattle.xor_obfuscation.specs.Xor.{password_verifier, xor_key, xor_array}
use Rattle.binary_office.specs.declared.Verdict.{Verdict}
use Rattle.binary_office.specs.declared.Verdict.TheVariants.{Yes, No, Unknown}
use Rattle.binary_office.specs.Look.{look}
use Rattle.file_params.specs.declared.Refusal.{Refusal}
use Rattle.file_params.specs.Refusal.{number, first, second}
use Rattle.file_params.specs.declared.Refusal.TheVariants.{BiffRecordUnreadable, WorkbookBofMissing, NotEncrypted, FilepassOutOfOrder, FilepassTruncated, FilepassEncryptionType, EncryptionVersionInfoTruncated, UnsupportedEncryptionVersion, WrongPassword}
use Rattle.excel97.specs.Open.{Outcome, xor_report, outcome}

-- a stream and a password; Look's verdict; Open's answer with the scratch and the output that it leaves, and the answer in the document's numbers
pub record ShortBook : Type 0 where
  pub stream : List ℕ
  pub password : List ℕ
  pub verdict : Verdict
  pub left : Outcome
  pub numbers : List ℕ

-- a password, and what XOR derives from it
pub record ShortPassword : Type 0 where
  pub password : List ℕ
  pub key : ℕ
  pub verifier : ℕ
  pub array : List ℕ

pub data Case : Type 0 where
  book : ShortBook → Case
  password : ShortPassword → Case

-- what is lent beside stream and password: a scratch of 70 bytes, and an output of one byte more than the stream, none of their bytes 0
abbrev pub lent_scratch : List ℕ
lent_scratch = replicate 70 0xAA

-- and what is left of the scratch from question 6 on: "exactly the first 64 end zero" (document 02, T-06)
abbrev pub left_scratch : List ℕ
left_scratch = replicate 64 0 ++ replicate 6 0xAA

abbrev pub lent_output : (stream : List ℕ) → List ℕ
lent_output stream = replicate (length stream + 1) 0xAA

-- a refusal's number and its two details
abbrev pub numbers_of : (Result Report Refusal) → List ℕ
numbers_of (Ok told) = []
numbers_of (Err r) = number r ∷ first r ∷ second r ∷ []

-- a case with its results computed again
abbrev pub again : Case → Case
again (book b) =
    book
    (record {
      stream = b.stream;
      password = b.password;
      verdict = look b.stream;
      left = outcome b.stream b.password lent_scratch (lent_output b.stream);
      numbers = numbers_of b.left.answer;
    })
again (password d) =
    password
    (record { password = d.password; key = xor_key d.password; verifier = password_verifier d.password; array = xor_array d.password (xor_key d.password) })

-- the two passwords
abbrev password_a : List ℕ
password_a = 0x41 ∷ []

abbrev password_b : List ℕ
password_b = 0x42 ∷ []

-- yes, and nothing known of the lock; yes, and XOR
abbrev locked : Verdict
locked = Yes (record { xor = false; version = None; key_size = None })

abbrev locked_xor : Verdict
locked_xor = Yes (record { xor = true; version = None; key_size = None })

-- a refusal from question 6 on: scratch is wiped, and the output is as it was
abbrev refused : (stream password : List ℕ) → Verdict → Refusal → (number first second : ℕ) → Case
refused stream p verdict r n a b =
    book
    (record {
      stream = stream;
      password = p;
      verdict = verdict;
      left = record { answer = Err r; scratch = left_scratch; output = lent_output stream };
      numbers = n ∷ a ∷ b ∷ [];
    })

-- the last book, which is locked by XOR with the password A
abbrev last_book : List ℕ
last_book = 0x09 ∷ 0x08 ∷ 0x00 ∷ 0x00 ∷ 0x2F ∷ 0x00 ∷ 0x06 ∷ 0x00 ∷ 0x00 ∷ 0x00 ∷ 0x15 ∷ 0xB9 ∷ 0xC8 ∷ 0xCE ∷ 0x42 ∷ 0x00 ∷ 0x02 ∷ 0x00 ∷ 0x00 ∷ 0x00 ∷ []

abbrev pub cases : List Case
cases =
    refused [] password_a Unknown WorkbookBofMissing 7 0 0
    ∷ refused (0x09 ∷ 0x08 ∷ 0x00 ∷ 0x00 ∷ []) password_a Unknown NotEncrypted 8 0 0
    ∷ refused (0x09 ∷ 0x08 ∷ 0x00 ∷ []) password_a Unknown (BiffRecordUnreadable 0) 6 0 0
    ∷ refused (0x2F ∷ 0x00 ∷ 0x00 ∷ 0x00 ∷ []) password_a Unknown WorkbookBofMissing 7 0 0
    ∷ refused (0x09 ∷ 0x08 ∷ 0x00 ∷ 0x00 ∷ 0x2F ∷ 0x00 ∷ 0x06 ∷ 0x00 ∷ 0x00 ∷ 0x00 ∷ []) password_a locked_xor (BiffRecordUnreadable 4) 6 4 0
    ∷ refused (0x09 ∷ 0x08 ∷ 0x00 ∷ 0x00 ∷ 0x42 ∷ 0x00 ∷ 0x00 ∷ 0x00 ∷ 0x2F ∷ 0x00 ∷ 0x00 ∷ 0x00 ∷ []) password_a No (FilepassOutOfOrder 0x0042) 9 0x0042 0
    ∷ refused (0x09 ∷ 0x08 ∷ 0x00 ∷ 0x00 ∷ 0x2F ∷ 0x00 ∷ 0x00 ∷ 0x00 ∷ []) password_a locked (FilepassTruncated 0 2) 10 0 2
    ∷ refused (0x09 ∷ 0x08 ∷ 0x00 ∷ 0x00 ∷ 0x2F ∷ 0x00 ∷ 0x03 ∷ 0x00 ∷ 0x00 ∷ 0x00 ∷ 0x15 ∷ []) password_a locked_xor (FilepassTruncated 1 4) 10 1 4
    ∷ refused (0x09 ∷ 0x08 ∷ 0x00 ∷ 0x00 ∷ 0x2F ∷ 0x00 ∷ 0x02 ∷ 0x00 ∷ 0x02 ∷ 0x00 ∷ []) password_a locked (FilepassEncryptionType 2) 11 2 0
    ∷ refused (0x09 ∷ 0x08 ∷ 0x00 ∷ 0x00 ∷ 0x2F ∷ 0x00 ∷ 0x04 ∷ 0x00 ∷ 0x01 ∷ 0x00 ∷ 0x01 ∷ 0x00 ∷ []) password_a locked (EncryptionVersionInfoTruncated 2) 12 2 4
    ∷ refused (0x09 ∷ 0x08 ∷ 0x00 ∷ 0x00 ∷ 0x2F ∷ 0x00 ∷ 0x06 ∷ 0x00 ∷ 0x01 ∷ 0x00 ∷ 0x01 ∷ 0x00 ∷ 0x02 ∷ 0x00 ∷ []) password_a
    (Yes (record { xor = false; version = Some (record { major = 1; minor = 2 }); key_size = None })) (UnsupportedEncryptionVersion 1 2) 13 1 2
    ∷ password
    (record {
      password = password_a;
      key = 0xB915;
      verifier = 0xCEC8;
      array = 0x2A ∷ 0x01 ∷ 0x75 ∷ 0x23 ∷ 0xD7 ∷ 0x23 ∷ 0x75 ∷ 0x00 ∷ 0xCA ∷ 0xDC ∷ 0xD5 ∷ 0x5B ∷ 0x8A ∷ 0x03 ∷ 0x0D ∷ 0xDC ∷ [];
    })
    ∷ book
    (record {
      stream = last_book;
      password = password_a;
      verdict = locked_xor;
      left = record {
        answer = Ok (xor_report 3 20 2 0);
        scratch = left_scratch;
        output = 0x09 ∷ 0x08 ∷ 0x00 ∷ 0x00 ∷ 0x00 ∷ 0x00 ∷ 0x06 ∷ 0x00 ∷ 0x00 ∷ 0x00 ∷ 0x00 ∷ 0x00 ∷ 0x00 ∷ 0x00 ∷ 0x42 ∷ 0x00 ∷ 0x02 ∷ 0x00 ∷ 0xBE ∷ 0x19 ∷ 0xAA ∷ [];
      };
      numbers = [];
    })
    ∷ refused last_book password_b locked_xor WrongPassword 27 0 0
    ∷ refused last_book [] locked_xor WrongPassword 27 0 0
    ∷ []
