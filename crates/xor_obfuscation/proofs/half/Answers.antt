-- `xor_obfuscation::half` meets its contract: the place's parity picks the half.
-- Assumes nothing.
use Rattle.std.proofs.Common.{◌≡◌, ◌%◌, arith}
use Rattle.laws.specs.Choice.{pick}
use Rattle.laws.proofs.Choice.{same_or}
use Rattle.xor_obfuscation.proofs.half.Goals as goal

pub returns : goal.returns
unfolding pick
returns c = let e = c.to_le_bytes.ensures in let r = c.args.i % 2 in
    same_or r 1 (λ q. rw (e, q)) (λ q. let z : r ≡ 0 = omega arith in rw (e, z))
