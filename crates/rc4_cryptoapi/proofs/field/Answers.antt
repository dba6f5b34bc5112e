-- `rc4_cryptoapi::field` meets its contract: the word of its four bytes.
-- Assumes nothing.
use Rattle.word.specs.Word.{le32}
use Rattle.rc4_cryptoapi.proofs.field.Goals as goal

pub returns : goal.returns
unfolding le32
returns c = c.from_le_bytes.ensures
