-- No refusal has the number 0, so that an answer of 0 is none.
-- Assumes nothing.
use mathlib.Core.Path.{◌≡◌, refl}
use mathlib.Core.Bool.{true}
use Prim.Native.Nat.{◌≤◌}
use native.Mathlib.Omega.{arith}
use borrow.Author.Tests.{leb-true}
use lib.Dec.{leb}
use Rattle.file_params.specs.declared.Refusal.{Refusal}
use Rattle.file_params.specs.declared.Refusal.TheVariants as refusal
use Rattle.file_params.specs.Refusal.{number}

positive : (r : Refusal) → leb 1 (number r) ≡ true
positive refusal.PasswordTooLong = refl
positive refusal.PasswordMalformed = refl
positive refusal.ScratchShort = refl
positive refusal.StreamTooLarge = refl
positive refusal.OutputShort = refl
positive (refusal.BiffRecordUnreadable offset) = refl
positive refusal.WorkbookBofMissing = refl
positive refusal.NotEncrypted = refl
positive (refusal.FilepassOutOfOrder id) = refl
positive (refusal.FilepassTruncated have need) = refl
positive (refusal.FilepassEncryptionType got) = refl
positive (refusal.EncryptionVersionInfoTruncated have) = refl
positive (refusal.UnsupportedEncryptionVersion major minor) = refl
positive (refusal.Rc4Office97HeaderTruncated have) = refl
positive (refusal.EncryptionInfoTruncated have) = refl
positive (refusal.EncryptionHeaderSizeOutOfRange got) = refl
positive (refusal.EncryptionHeaderSizeOutOfBounds size have) = refl
positive (refusal.FlagExternal flags) = refl
positive (refusal.FlagAes flags) = refl
positive (refusal.FlagCryptoApiClear flags) = refl
positive (refusal.UnsupportedAlgId got) = refl
positive (refusal.UnsupportedAlgIdHash got) = refl
positive (refusal.EncryptionHeaderKeySize got) = refl
positive (refusal.EncryptionVerifierTruncated have) = refl
positive (refusal.VerifierSaltSize got) = refl
positive (refusal.VerifierHashSize got) = refl
positive refusal.WrongPassword = refl
positive (refusal.BoundSheetStart offset) = refl
positive (refusal.BofEofUnpaired offset) = refl
positive refusal.ZeroRecordMissing = refl
positive (refusal.ZeroRecordLength len) = refl
positive refusal.XorPasswordUnfit = refl

pub at_least_one : (r : Refusal) → 1 ≤ number r
at_least_one r = leb-true 1 (number r) (positive r)

pub not_refused : {X : Type 0} (r : Refusal) → number r ≡ 0 → X
not_refused r e = let h = at_least_one r in absurd (omega arith)
