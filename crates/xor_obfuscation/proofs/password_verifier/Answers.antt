-- `xor_obfuscation::password_verifier` meets its contract: the fold has walked the bytes from the last to the first.
-- Assumes nothing.
use Rattle.std.proofs.Common.{◌≡◌, rules, reverse}
use Rattle.std.proofs.iter.runs.Made.{chains}
use Rattle.std.specs.List.{fold}
use Rattle.xor_obfuscation.specs.Xor.{verifier_step}
use Rattle.xor_obfuscation.proofs.Derived.{walked_back, verifier_whole}
use Rattle.xor_obfuscation.proofs.password_verifier.Goals as goal

pub returns : goal.returns
returns c = let e : c.fold-walked.result ≡ fold verifier_step 0 (reverse c.args.password.now) = search (rules, chains) in
    verifier_whole c.args.password.now c.fold-walked.result c.min-len_byte.result c.verifier_step.result (walked_back c.args.password.now _ e) c.min-len_byte.ensures c.verifier_step.ensures
