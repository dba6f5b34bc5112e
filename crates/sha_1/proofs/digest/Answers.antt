-- `sha_1::digest` meets its contract: SHA-1 is the hash by its blocks.
-- Assumes nothing.
use Rattle.sha_1.specs.Sha1.{sha1}
use Rattle.sha_1.proofs.digest.Goals as goal

pub returns : goal.returns
unfolding sha1
returns c = c.digest.ensures
