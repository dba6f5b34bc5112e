-- `sensitive::three` meets its contract: the test is put together from what its calls ensure.
-- Assumes nothing.
use Rattle.sensitive.specs.Utf8.{three}
use Rattle.sensitive.proofs.three.Goals as goal

pub returns : goal.returns
unfolding three
returns c = cc
