-- `password_digest::sha1_password` meets its contract: SHA-1 is the hash by its blocks, of the salt and the password.
-- Assumes nothing.
use Rattle.sha_1.specs.Sha1.{sha1}
use Rattle.password_digest.proofs.sha1_password.Goals as goal

pub returns : goal.returns
unfolding sha1
returns c = record { digested = c.hash_password.ensures.digested; wiped = c.hash_password.ensures.wiped }
