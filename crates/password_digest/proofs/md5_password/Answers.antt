-- `password_digest::md5_password` meets its contract: MD5 is the hash by its blocks, of the password behind nothing.
-- Assumes nothing.
use Rattle.md_5.specs.Md5.{md5}
use Rattle.password_digest.proofs.md5_password.Goals as goal

pub returns : goal.returns
unfolding md5
returns c = record { digested = c.hash_password.ensures.digested; wiped = c.hash_password.ensures.wiped }
