-- `block_keys::make_schedule` meets its contract: a schedule of the family's digest, where there is one.
-- Assumes nothing.
use mathlib.Core.Path.{refl}
use mathlib.Core.List.{List}
use Prim.Native.Nat.{ℕ}
use Rattle.block_keys.specs.declared.Kind.TheVariants.{Office97, CryptoApi}
use Rattle.block_keys.proofs.Schedules.{no_schedule, schedule_made_of}
use Rattle.block_keys.proofs.make_schedule.Goals as goal

pub returns-in_err-digest-in-Office97 : goal.returns-in_err-digest-in-Office97
returns-in_err-digest-in-Office97 c = rw c.from_residual.ensures (no_schedule c.args.kind c.args.key_bits c.args.salt c.in_err-digest-in-Office97.ensures)

pub returns-in_ok-digest-in-Office97 : goal.returns-in_ok-digest-in-Office97
returns-in_ok-digest-in-Office97 c =
    rw c.in-Office97.is
    (schedule_made_of Office97 c.args.key_bits c.args.salt _ (λ (l : List ℕ). record { kind = Office97; key_bits = c.args.key_bits; digest = l }) refl
    c.in_ok-digest-in-Office97.ensures)

pub returns-in_err-digest-in-CryptoApi : goal.returns-in_err-digest-in-CryptoApi
returns-in_err-digest-in-CryptoApi c = rw c.from_residual-in_err-digest-in-CryptoApi.ensures (no_schedule c.args.kind c.args.key_bits c.args.salt c.in_err-digest-in-CryptoApi.ensures)

pub returns-in_ok-digest-in-CryptoApi : goal.returns-in_ok-digest-in-CryptoApi
returns-in_ok-digest-in-CryptoApi c =
    rw c.in-CryptoApi.is
    (schedule_made_of CryptoApi c.args.key_bits c.args.salt _ (λ (l : List ℕ). record { kind = CryptoApi; key_bits = c.args.key_bits; digest = l }) refl
    c.in_ok-digest-in-CryptoApi.ensures)
