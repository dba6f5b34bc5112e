-- `md_5::StateBlockHash::to_digest` meets its contract: the bytes of each word, in order.
-- Assumes nothing.
use Rattle.md_5.specs.Md5.{output}
use Rattle.md_5.proofs.StateBlockHash.to_digest.Goals as goal

pub returns : goal.returns
unfolding output
returns c = rw (c.to_le_bytes-a.ensures, c.to_le_bytes-b.ensures, c.to_le_bytes-c.ensures, c.to_le_bytes-d.ensures)
