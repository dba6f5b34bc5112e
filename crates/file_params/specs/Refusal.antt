-- The number and the two details that document 01 gives each refusal ("Open: the plain stream", its questions), and document 02 those that a request adds
-- (28 and 29: T-01; 30 to 32: T-07); a detail that is not named is 0.
-- Assumes nothing.
use Rattle.std.specs.Prelude.{ℕ}
use Rattle.file_params.specs.declared.Refusal.{Refusal}
use Rattle.file_params.specs.declared.Refusal.TheVariants as refusal

abbrev pub number : Refusal → ℕ
number refusal.PasswordTooLong = 1
number refusal.PasswordMalformed = 2
number refusal.ScratchShort = 3
number refusal.StreamTooLarge = 4
number refusal.OutputShort = 5
number (refusal.BiffRecordUnreadable offset) = 6
number refusal.WorkbookBofMissing = 7
number refusal.NotEncrypted = 8
number (refusal.FilepassOutOfOrder id) = 9
number (refusal.FilepassTruncated have need) = 10
number (refusal.FilepassEncryptionType got) = 11
number (refusal.EncryptionVersionInfoTruncated have) = 12
number (refusal.UnsupportedEncryptionVersion major minor) = 13
number (refusal.Rc4Office97HeaderTruncated have) = 14
number (refusal.EncryptionInfoTruncated have) = 15
number (refusal.EncryptionHeaderSizeOutOfRange got) = 16
number (refusal.EncryptionHeaderSizeOutOfBounds size have) = 17
number (refusal.FlagExternal flags) = 18
number (refusal.FlagAes flags) = 19
number (refusal.FlagCryptoApiClear flags) = 20
number (refusal.UnsupportedAlgId got) = 21
number (refusal.UnsupportedAlgIdHash got) = 22
number (refusal.EncryptionHeaderKeySize got) = 23
number (refusal.EncryptionVerifierTruncated have) = 24
number (refusal.VerifierSaltSize got) = 25
number (refusal.VerifierHashSize got) = 26
number refusal.WrongPassword = 27
number (refusal.BoundSheetStart offset) = 28
number (refusal.BofEofUnpaired offset) = 29
number refusal.ZeroRecordMissing = 30
number (refusal.ZeroRecordLength len) = 31
number refusal.XorPasswordUnfit = 32

abbrev pub first : Refusal → ℕ
first refusal.PasswordTooLong = 0
first refusal.PasswordMalformed = 0
first refusal.ScratchShort = 0
first refusal.StreamTooLarge = 0
first refusal.OutputShort = 0
first (refusal.BiffRecordUnreadable offset) = offset
first refusal.WorkbookBofMissing = 0
first refusal.NotEncrypted = 0
first (refusal.FilepassOutOfOrder id) = id
first (refusal.FilepassTruncated have need) = have
first (refusal.FilepassEncryptionType got) = got
first (refusal.EncryptionVersionInfoTruncated have) = have
first (refusal.UnsupportedEncryptionVersion major minor) = major
first (refusal.Rc4Office97HeaderTruncated have) = have
first (refusal.EncryptionInfoTruncated have) = have
first (refusal.EncryptionHeaderSizeOutOfRange got) = got
first (refusal.EncryptionHeaderSizeOutOfBounds size have) = size
first (refusal.FlagExternal flags) = flags
first (refusal.FlagAes flags) = flags
first (refusal.FlagCryptoApiClear flags) = flags
first (refusal.UnsupportedAlgId got) = got
first (refusal.UnsupportedAlgIdHash got) = got
first (refusal.EncryptionHeaderKeySize got) = got
first (refusal.EncryptionVerifierTruncated have) = have
first (refusal.VerifierSaltSize got) = got
first (refusal.VerifierHashSize got) = got
first refusal.WrongPassword = 0
first (refusal.BoundSheetStart offset) = offset
first (refusal.BofEofUnpaired offset) = offset
first refusal.ZeroRecordMissing = 0
first (refusal.ZeroRecordLength len) = len
first refusal.XorPasswordUnfit = 0

abbrev pub second : Refusal → ℕ
second refusal.PasswordTooLong = 0
second refusal.PasswordMalformed = 0
second refusal.ScratchShort = 0
second refusal.StreamTooLarge = 0
second refusal.OutputShort = 0
second (refusal.BiffRecordUnreadable offset) = 0
second refusal.WorkbookBofMissing = 0
second refusal.NotEncrypted = 0
second (refusal.FilepassOutOfOrder id) = 0
second (refusal.FilepassTruncated have need) = need
second (refusal.FilepassEncryptionType got) = 0
second (refusal.EncryptionVersionInfoTruncated have) = 4
second (refusal.UnsupportedEncryptionVersion major minor) = minor
second (refusal.Rc4Office97HeaderTruncated have) = 52
second (refusal.EncryptionInfoTruncated have) = 12
second (refusal.EncryptionHeaderSizeOutOfRange got) = 0
second (refusal.EncryptionHeaderSizeOutOfBounds size have) = have
second (refusal.FlagExternal flags) = 0
second (refusal.FlagAes flags) = 0
second (refusal.FlagCryptoApiClear flags) = 0
second (refusal.UnsupportedAlgId got) = 0
second (refusal.UnsupportedAlgIdHash got) = 0
second (refusal.EncryptionHeaderKeySize got) = 0
second (refusal.EncryptionVerifierTruncated have) = 60
second (refusal.VerifierSaltSize got) = 0
second (refusal.VerifierHashSize got) = 0
second refusal.WrongPassword = 0
second (refusal.BoundSheetStart offset) = 0
second (refusal.BofEofUnpaired offset) = 0
second refusal.ZeroRecordMissing = 0
second (refusal.ZeroRecordLength len) = 0
second refusal.XorPasswordUnfit = 0
