-- `sealing::put_office97` meets its contract: each part starts where the one before it ends.
-- Assumes nothing.
use borrow.Author.Rules.{rules}
use mathlib.Core.Path.{◌≡◌, refl}
use mathlib.Core.List.{[], ◌∷◌, ◌++◌}
use Prim.Native.Nat.{◌+◌}
use native.Mathlib.Omega.{arith}
use lib.ListN.{length, take}
use Rattle.sealing.proofs.Puts.{put_on}
use Rattle.sealing.proofs.put_office97.Goals as goal

pub returns : goal.returns
returns c =
    let salt_sixteen : length c.args.salt ≡ 16 =
    search rules in
    let verifier_sixteen : length c.args.encrypted.verifier ≡ 16 =
    search rules in
    let hash = take 16 c.args.encrypted.hash in
    let s = salt_sixteen in
    let v = verifier_sixteen in
    put_on (1 ∷ 0 ∷ 1 ∷ 0 ∷ 1 ∷ 0 ∷ []) (c.args.salt ++ (c.args.encrypted.verifier ++ hash)) c.args.at (c.args.at + 6) _ _ _ refl c.put.ensures
    (put_on c.args.salt (c.args.encrypted.verifier ++ hash) (c.args.at + 6) (c.args.at + 22) _ _ _ (omega arith) c.put-2.ensures
    (put_on c.args.encrypted.verifier hash (c.args.at + 22) (c.args.at + 38) _ _ _ (omega arith) c.put-3.ensures c.put-4.ensures))
