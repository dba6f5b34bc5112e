-- `sealing::check_choice` meets its contract: each way out is one question of the table.
-- Assumes nothing.
use Rattle.std.specs.Prelude.{Ok, Err, Result, ⊤}
use mathlib.Core.Path.{◌≡◌, refl, sym, ap, ◌∙◌}
use mathlib.Core.Bool.{true, false, ◌&&◌}
use Prim.Native.Nat.{ℕ, ◌%◌}
use lib.Dec.{eqb}
use Rattle.std.proofs.Common.{arith}
use Rattle.std.proofs.lemmas.Grind.{common_steps}
use Rattle.laws.specs.Choice.{within}
use Rattle.file_params.specs.declared.Refusal.{Refusal}
use Rattle.file_params.specs.declared.Refusal.TheVariants.{UnsupportedEncryptionVersion, EncryptionHeaderKeySize}
use Rattle.file_params.specs.Questions.{asked, unless}
use Rattle.file_params.proofs.Laws.{past, refused}
use Rattle.sealing.specs.declared.Choice.{Choice}
use Rattle.sealing.specs.declared.Choice.TheVariants.{Xor, Office97, CryptoApi}
use Rattle.sealing.specs.Seal.{admitted}
use Rattle.sealing.proofs.check_choice.Goals as goal

abbrev answer : Choice → Result ⊤ Refusal
answer choice = unless tt (asked (admitted choice))

others : (choice : Choice) → ((major bits : ℕ) → choice ≡ CryptoApi major bits → ⊥) → Ok tt ≡ answer choice
unfolding asked admitted
others Xor f = refl
others Office97 f = refl
others (CryptoApi major bits) f = absurd (f major bits refl)

module _ (choice : Choice) (major bits : ℕ) (e : choice ≡ CryptoApi major bits) where
  unsupported : within 2 4 major ≡ false → Err (UnsupportedEncryptionVersion major 2) ≡ answer choice
  unfolding asked admitted
  unsupported f = rw e (ap (unless tt) (refused _ f))

  module _ (supported : within 2 4 major ≡ true) where
    unstated : (within 40 128 bits && eqb (bits % 8) 0) ≡ false → Err (EncryptionHeaderKeySize bits) ≡ answer choice
    unfolding asked admitted
    unstated f = rw e (ap (unless tt) (past _ supported (refused _ f)))

    fine : (within 40 128 bits && eqb (bits % 8) 0) ≡ true → Ok tt ≡ answer choice
    unfolding asked admitted
    fine t = rw e (ap (unless tt) (past _ supported (past _ t refl)))

pub returns-then-not-contains : goal.returns-then-not-contains
returns-then-not-contains c =
    let outside : within 2 4 c.in-CryptoApi.major ≡ false = grind (arith, common_steps) in
    unsupported c.args.choice _ _ c.in-CryptoApi.is outside

pub returns-then-not-key_size_stated : goal.returns-then-not-key_size_stated
returns-then-not-key_size_stated c =
    let inside : within 2 4 c.in-CryptoApi.major ≡ true = grind (arith, common_steps) in
    unstated c.args.choice _ _ c.in-CryptoApi.is inside
    (sym c.key_size_stated.ensures ∙ c.if-not-key_size_stated.true)

pub returns-else-not-key_size_stated : goal.returns-else-not-key_size_stated
returns-else-not-key_size_stated c =
    let inside : within 2 4 c.in-CryptoApi.major ≡ true = grind (arith, common_steps) in
    fine c.args.choice _ _ c.in-CryptoApi.is inside
    (sym c.key_size_stated.ensures ∙ c.if-not-key_size_stated.false)

pub returns-in_default : goal.returns-in_default
returns-in_default c = others c.args.choice (λ major bits. c.in_default.not-CryptoApi major bits)
