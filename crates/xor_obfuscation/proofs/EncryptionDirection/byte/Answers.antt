use Rattle.std.proofs.Common.{ℕ, ap}
use Rattle.std.specs.Int.Bits.{bit_xor}
use Rattle.word.specs.Word.{rotl}
use Rattle.xor_obfuscation.proofs.EncryptionDirection.byte.Goals as goal

pub returns : goal.returns
unfolding rotl
returns c = ap (λ (x : ℕ). bit_xor x c.args.key) c.rotate_left.ensures
