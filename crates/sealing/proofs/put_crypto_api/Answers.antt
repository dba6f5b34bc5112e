-- `sealing::put_crypto_api` meets its contract: each part starts where the one before it ends.
-- Assumes nothing.
use borrow.Author.Rules.{rules}
use mathlib.Core.Path.{◌≡◌, refl, ap, ◌∙◌}
use mathlib.Core.List.{List, ◌++◌}
use Prim.Native.Nat.{ℕ, ◌+◌, ◌-◌}
use native.Mathlib.Omega.{arith}
use lib.ListN.{length, length-replicate}
use Rattle.binary_office.specs.Walk.{zero_bytes}
use Rattle.sealing.specs.Filepass.{four, header_len}
use Rattle.sealing.specs.Steps.{crypto_api_head}
use Rattle.sealing.proofs.Puts.{put_on, put_same}
use Rattle.sealing.proofs.put_crypto_api.Goals as goal

header_len_lem : (len : ℕ) → len - 74 ≡ header_len len
header_len_lem len = omega arith

pub returns : goal.returns
returns c =
    let salt_sixteen : length c.args.salt ≡ 16 =
    search rules in
    let verifier_sixteen : length c.args.encrypted.verifier ≡ 16 =
    search rules in
    let n = c.args.len - 106 in
    let tail = c.args.at + 46 + n in
    let head : List ℕ = crypto_api_head c.args.major c.args.bits (header_len c.args.len) in
    let named = c.crypto_api_head-head.ensures ∙ ap (crypto_api_head c.args.major c.args.bits) (header_len_lem c.args.len) in
    let s = salt_sixteen in
    let v = verifier_sixteen in
    let z = length-replicate {A = ℕ} n 0 in
    put_on head (zero_bytes n ++ (four 16 ++ (c.args.salt ++ (c.args.encrypted.verifier ++ (four 20 ++ c.args.encrypted.hash))))) c.args.at (c.args.at + 46) _ _ _ refl
    (put_same _ head c.args.at _ _ named c.put.ensures)
    (put_on (zero_bytes n) (four 16 ++ (c.args.salt ++ (c.args.encrypted.verifier ++ (four 20 ++ c.args.encrypted.hash)))) (c.args.at + 46) tail _ _ _ (omega arith) c.put_zeros.ensures
    (put_on (four 16) (c.args.salt ++ (c.args.encrypted.verifier ++ (four 20 ++ c.args.encrypted.hash))) tail (tail + 4) _ _ _ refl c.put-2.ensures
    (put_on c.args.salt (c.args.encrypted.verifier ++ (four 20 ++ c.args.encrypted.hash)) (tail + 4) (tail + 20) _ _ _ (omega arith) c.put-3.ensures
    (put_on c.args.encrypted.verifier (four 20 ++ c.args.encrypted.hash) (tail + 20) (tail + 36) _ _ _ (omega arith) c.put-4.ensures
    (put_on (four 20) c.args.encrypted.hash (tail + 36) (tail + 40) _ _ _ (omega arith) c.put-5.ensures c.put-6.ensures)))))
