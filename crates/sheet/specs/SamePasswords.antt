-- In C, two books of which `sheet_same_lock` says true take the same passwords: two calls of `sheet_open` with one password that both reach question 27, and so
-- return 0 or 27, return the same.
-- Assumes nothing.
use Rattle.std.specs.Prelude.{◌≡◌, ℕ, Bool, true, List, ◌⊎◌}
use Rattle.binary_office.specs.SameLock.{same_lock}
use Rattle.same_passwords.specs.SamePasswords.{EndsWithin}
use Rattle.sheet.specs.Facts.{OpensInC}

abbrev pub OfAnyRunsInC : Type 0
OfAnyRunsInC =
    (s t password : List ℕ) (same : Bool) (scratch output other_scratch other_output : List ℕ)
    (a b : ℕ) (scratch' output' told other_scratch' other_output' other_told : List ℕ)
    → same ≡ same_lock s t → same ≡ true → EndsWithin s ⊎ EndsWithin t
    → OpensInC s password scratch output a scratch' output' told → OpensInC t password other_scratch other_output b other_scratch' other_output' other_told
    → (a ≡ 0) ⊎ (a ≡ 27) → (b ≡ 0) ⊎ (b ≡ 27)
    → a ≡ b
