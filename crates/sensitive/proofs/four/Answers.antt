-- `sensitive::four` meets its contract: the test is put together from what its calls ensure.
-- Assumes nothing.
use Rattle.sensitive.specs.Utf8.{four}
use Rattle.sensitive.proofs.four.Goals as goal

pub returns : goal.returns
unfolding four
returns c = cc
