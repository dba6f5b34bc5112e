-- `block_keys::crypto_api` meets its contract: what the structure's parse told.
-- Assumes nothing.
use Rattle.std.proofs.Common.{arith}
use Rattle.std.proofs.lemmas.Grind.{common_steps}
use Rattle.rc4_cryptoapi.specs.Parse.{parsed}
use Rattle.block_keys.proofs.crypto_api.Goals as goal

pub returns-in_err-header : goal.returns-in_err-header
unfolding parsed
returns-in_err-header c = grind (arith, common_steps)

pub returns : goal.returns
unfolding parsed
returns c = grind (arith, common_steps)
