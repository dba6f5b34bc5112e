-- `md_5::digest` meets its contract: MD5 is the hash by its blocks.
-- Assumes nothing.
use Rattle.md_5.specs.Md5.{md5}
use Rattle.md_5.proofs.digest.Goals as goal

pub returns : goal.returns
unfolding md5
returns c = c.digest.ensures
