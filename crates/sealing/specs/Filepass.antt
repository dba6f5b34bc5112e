-- The body of a FILEPASS that sealing writes: MS-XLS 2.4.117 (FilePass), MS-OFFCRYPTO 2.3.7 (XOR), 2.3.6.1 (1.1) and 2.3.5.1 with 2.3.2 and 2.3.3 (CryptoAPI), each
-- field in its place, with the values that document 02 gives (T-07).
-- Assumes nothing.
use Rattle.std.specs.Prelude.{ℕ, ◌-◌, ◌/◌, ◌%◌, ◌^◌, List, [], ◌∷◌, ◌++◌, Option, None, Some}
use Rattle.word.specs.Word.{le_bytes}
use Rattle.sensitive.specs.Ansi.{ansi}
use Rattle.xor_obfuscation.specs.Xor.{password_verifier, xor_key}
use Rattle.binary_office.specs.Walk.{zero_bytes}
use Rattle.block_keys.specs.declared.Kind.TheVariants as kind
use Rattle.block_keys.specs.declared.Schedule.{Schedule}
use Rattle.block_keys.specs.BlockKeys.{schedule_of, encrypted_verifier, encrypted_verifier_hash}
use Rattle.sealing.specs.declared.Choice.{Choice}
use Rattle.sealing.specs.declared.Choice.TheVariants.{Xor, Office97, CryptoApi}

-- a number in two bytes and in four, the least significant first
abbrev pub two : ℕ → List ℕ
two x = x % 256 ∷ x / 2 ^ 8 % 256 ∷ []

abbrev pub four : ℕ → List ℕ
four x = le_bytes x

-- the bytes of an XOR password
abbrev pub characters : Option (List ℕ) → List ℕ
characters None = []
characters (Some p) = p

-- 2.3.7: type 0, then the key and the verification bytes
unfoldable pub xor_body : (p : List ℕ) → List ℕ
xor_body p = two 0 ++ (two (xor_key p) ++ two (password_verifier p))

-- 2.3.6.1: type 1, then EncryptionVersionInfo 1.1, Salt, EncryptedVerifier, EncryptedVerifierHash
unfoldable pub office97_body : Schedule → (salt verifier : List ℕ) → List ℕ
office97_body s salt verifier = two 1 ++ (two 1 ++ (two 1 ++ (salt ++ (encrypted_verifier s verifier ++ encrypted_verifier_hash s verifier))))

-- 2.3.2: Flags 0C, SizeExtra 0, AlgID 6801, AlgIDHash 8004, KeySize, ProviderType 1, Reserved1 and Reserved2 0, and a CSPName of zeros up to the header's end
abbrev pub header_fields : (bits : ℕ) → List ℕ
header_fields bits = four 0x0C ++ (four 0 ++ (four 0x6801 ++ (four 0x8004 ++ (four bits ++ (four 1 ++ (four 0 ++ four 0))))))

abbrev pub encryption_header : (bits size : ℕ) → List ℕ
encryption_header bits size = header_fields bits ++ zero_bytes (size - 32)

-- 2.3.3: SaltSize 16, Salt, EncryptedVerifier, VerifierHashSize 20, EncryptedVerifierHash
abbrev pub encryption_verifier : Schedule → (salt verifier : List ℕ) → List ℕ
encryption_verifier s salt verifier = four 16 ++ (salt ++ (encrypted_verifier s verifier ++ (four 20 ++ encrypted_verifier_hash s verifier)))

-- "a header filling the body": what the type, the 12 bytes before the header and the 60 of the verifier leave
abbrev pub header_len : (len : ℕ) → ℕ
header_len len = len - 2 - 12 - 60

-- 2.3.5.1: type 1, then EncryptionVersionInfo (major, 2), Flags 0C, EncryptionHeaderSize, EncryptionHeader, EncryptionVerifier
unfoldable pub crypto_api_body : Schedule → (major bits len : ℕ) → (salt verifier : List ℕ) → List ℕ
crypto_api_body s major bits len salt verifier =
    two 1
    ++ (two major ++ (two 2 ++ (four 0x0C ++ (four (header_len len) ++ (encryption_header bits (header_len len) ++ encryption_verifier s salt verifier)))))

-- the body of `len` bytes for a choice
abbrev pub filepass_for : Choice → (password salt verifier : List ℕ) → (len : ℕ) → List ℕ
filepass_for Xor password salt verifier len = xor_body (characters (ansi password))
filepass_for Office97 password salt verifier len = office97_body (schedule_of kind.Office97 40 salt password) salt verifier
filepass_for (CryptoApi major bits) password salt verifier len = crypto_api_body (schedule_of kind.CryptoApi bits salt password) major bits len salt verifier
