-- `block_keys::block_key` meets its contract: each family's own key.
-- Assumes nothing.
use mathlib.Core.Path.{◌≡◌, sym, ap, ◌∙◌}
use mathlib.Core.List.{List}
use Prim.Native.Nat.{ℕ, ◌≤◌}
use native.Mathlib.Omega.{arith}
use lib.ListN.{length}
use Rattle.laws.specs.Offsets.{tabulate}
use Rattle.sensitive.specs.Derived.{derived}
use Rattle.rc4_office97.specs.Keys as office97
use Rattle.laws.proofs.Offsets.{heads}
use borrow.Author.Rules.{rules}
use Rattle.block_keys.proofs.Answers.{key_97, key_api}
use Rattle.block_keys.proofs.block_key.Goals as goal

five : (n : ℕ) → n ≡ 20 → 5 ≤ n
five n e = omega arith

pub returns-in-Office97 : goal.returns-in-Office97
unfolding tabulate
returns-in-Office97 c =
    let twenty : length c.args.schedule.digest ≡ 20 =
    search rules in
    c.block_key.ensures
    ∙ ap derived (ap (λ (l : List ℕ). office97.block_key l c.args.block) (heads c.args.schedule.digest 5 (five _ (twenty)))
    ∙ sym (key_97 c.args.schedule c.args.block c.in-Office97.is))

pub returns-in-CryptoApi : goal.returns-in-CryptoApi
returns-in-CryptoApi c = c.block_key-in-CryptoApi.ensures ∙ ap derived (sym (key_api c.args.schedule c.args.block c.in-CryptoApi.is))
