-- The scheme of a structure, by its version pair: a pair that is cut or of neither family is refused, and each family's own questions give the rest.
-- Assumes nothing.
use Rattle.std.specs.Prelude.{None, Some, Err}
use mathlib.Core.Path.{◌≡◌, refl, sym, ap}
use mathlib.Core.Bool.{Bool, true, false, ◌&&◌, ◌||◌}
use mathlib.Core.List.{List, ◌++◌, append-nil}
use Prim.Native.Nat.{ℕ, ◌≤◌, ◌<◌}
use native.Mathlib.Omega.{arith}
use borrow.Author.Tests.{le-leb, lt-leb, ne_eqb}
use lib.Dec.{eqb}
use lib.ListN.{length}
use Rattle.laws.specs.Choice.{within}
use Rattle.laws.proofs.Choice.{taken, left, within_yes, within_low, within_high}
use Rattle.binary_office.specs.Fields.{le16_at}
use Rattle.binary_office.proofs.Headers.{le16_is, le16_cut, le16_within}
use Rattle.file_params.specs.declared.Refusal.{Refusal}
use Rattle.file_params.specs.declared.Refusal.TheVariants.{EncryptionVersionInfoTruncated, UnsupportedEncryptionVersion}
use Rattle.file_params.specs.Questions.{asked, only, version, office97, crypto_api, rc4, is_office97, is_crypto_api}
use Rattle.file_params.proofs.Laws.{past, refused, asked_on, asked_stop, only_yes, only_no}
use Rattle.block_keys.specs.Lock.{office97_lock, crypto_api_lock, lock_of, scheme_of}
use Rattle.file_params.specs.Questions.{unless}

-- the tests of the families, on the two numbers
second : (t : Bool) {u : Bool} → u ≡ false → (t && u) ≡ false
second true e = e
second false e = refl

pub one_other : (major minor : ℕ) → major ≡ 1 → (minor ≡ 1 → ⊥) → (eqb major 1 && eqb minor 1) ≡ false
one_other major minor e g = second (eqb major 1) (ne_eqb minor 1 g)

pub api_other : (major minor : ℕ) → (minor ≡ 2 → ⊥) → (within 2 4 major && eqb minor 2) ≡ false
api_other major minor g = second (within 2 4 major) (ne_eqb minor 2 g)

pub not_one : (major minor : ℕ) → (major ≡ 1 → ⊥) → (eqb major 1 && eqb minor 1) ≡ false
not_one major minor g = rw (ne_eqb major 1 g)

pub low : (major minor : ℕ) → major < 1 → (within 2 4 major && eqb minor 2) ≡ false
low major minor h = rw (within_low 2 4 major (omega arith))

pub high : (major minor : ℕ) → 4 < major → (within 2 4 major && eqb minor 2) ≡ false
high major minor h = rw (within_high 2 4 major h)

pub api : (major minor : ℕ) → (major ≡ 1 → ⊥) → 1 ≤ major → major < 5 → minor ≡ 2 → (within 2 4 major && eqb minor 2) ≡ true
api major minor n h k e = rw (within_yes 2 4 major (omega arith) (omega arith), e)

module _ (st : List ℕ) where
  stopped : (r : Refusal) → Some r ≡ asked (version st) → Err r ≡ scheme_of st
  unfolding scheme_of rc4
  stopped r e = ap (unless (lock_of st)) (asked_stop (version st) _ r e)

  cut : length st < 4 → Err (EncryptionVersionInfoTruncated (length st)) ≡ scheme_of st
  unfolding asked version
  cut h = stopped _ (refused _ (lt-leb _ _ h))

  pub no_major : None ≡ le16_at st 0 → Err (EncryptionVersionInfoTruncated (length st)) ≡ scheme_of st
  no_major e = let h = le16_cut st 0 e in cut (omega arith)

  pub no_minor : None ≡ le16_at st 2 → Err (EncryptionVersionInfoTruncated (length st)) ≡ scheme_of st
  no_minor e = let h = le16_cut st 2 e in cut (omega arith)

  module _ (major minor : ℕ) (a : Some major ≡ le16_at st 0) (b : Some minor ≡ le16_at st 2) where
    there : 4 ≤ length st
    there = le16_within st 2 minor b

    -- the tests of the two families
    is_97 : (t : Bool) → (eqb major 1 && eqb minor 1) ≡ t → is_office97 st ≡ t
    is_97 t e = rw (← le16_is st 0 major a, ← le16_is st 2 minor b) e

    is_api : (t : Bool) → (within 2 4 major && eqb minor 2) ≡ t → is_crypto_api st ≡ t
    is_api t e = rw (← le16_is st 0 major a, ← le16_is st 2 minor b) e

    pub other_version : (eqb major 1 && eqb minor 1) ≡ false → (within 2 4 major && eqb minor 2) ≡ false
        → Err (UnsupportedEncryptionVersion major minor) ≡ scheme_of st
    unfolding asked version
    other_version e g =
        rw (le16_is st 0 major a, le16_is st 2 minor b)
        (stopped _ (past _ (le-leb _ _ there) (refused _ (rw (is_97 false e, is_api false g)))))

    accepted : (is_office97 st || is_crypto_api st) ≡ true → None ≡ asked (version st)
    unfolding asked version
    accepted e = past _ (le-leb _ _ there) (past _ e refl)

    pub version_97 : (eqb major 1 && eqb minor 1) ≡ true → (within 2 4 major && eqb minor 2) ≡ false → unless office97_lock (asked (office97 st)) ≡ scheme_of st
    unfolding scheme_of rc4 lock_of
    version_97 e g =
        let x = is_97 true e in
        let y = is_api false g in
        sym (rw (
          taken {t = is_office97 st} office97_lock (crypto_api_lock st) x,
          asked_on (version st) (only (is_office97 st) (office97 st) ++ only (is_crypto_api st) (crypto_api st)) (accepted (rw (x))),
          only_yes (office97 st) x,
          only_no (crypto_api st) y,
          append-nil (office97 st),
        ))

    pub version_api : (eqb major 1 && eqb minor 1) ≡ false → (within 2 4 major && eqb minor 2) ≡ true → unless (crypto_api_lock st) (asked (crypto_api st)) ≡ scheme_of st
    unfolding scheme_of rc4 lock_of
    version_api e g =
        let x = is_97 false e in
        let y = is_api true g in
        sym (rw (
          left {t = is_office97 st} office97_lock (crypto_api_lock st) x,
          asked_on (version st) (only (is_office97 st) (office97 st) ++ only (is_crypto_api st) (crypto_api st)) (accepted (rw (x, y))),
          only_no (office97 st) x,
          only_yes (crypto_api st) y,
        ))
