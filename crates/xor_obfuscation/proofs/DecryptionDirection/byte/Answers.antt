use Rattle.word.specs.Word.{rotr}
use Rattle.xor_obfuscation.proofs.DecryptionDirection.byte.Goals as goal

pub returns : goal.returns
unfolding rotr
returns c = c.rotate_right.ensures
