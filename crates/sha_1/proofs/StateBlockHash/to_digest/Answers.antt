-- `sha_1::StateBlockHash::to_digest` meets its contract: the bytes of each word, in order.
-- Assumes nothing.
use Rattle.sha_1.specs.Sha1.{output}
use Rattle.sha_1.proofs.StateBlockHash.to_digest.Goals as goal

pub returns : goal.returns
unfolding output
returns c = rw (c.to_be_bytes-a.ensures, c.to_be_bytes-b.ensures, c.to_be_bytes-c.ensures, c.to_be_bytes-d.ensures, c.to_be_bytes-e.ensures)
