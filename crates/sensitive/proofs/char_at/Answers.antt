-- `sensitive::char_at` meets its contract: at the end it answers `End`, and else what the four bytes start, which `byte_at` reads.
-- Assumes nothing.
use borrow.Author.Tests.{le-leb, lt-leb}
use Rattle.laws.proofs.Choice.{stop, skip}
use Rattle.sensitive.specs.Utf8.{char_at}
use Rattle.sensitive.proofs.char_at.Goals as goal

pub returns-then-text-at : goal.returns-then-text-at
unfolding char_at
returns-then-text-at c = stop _ (le-leb _ _ c.if-text-at.true)

pub returns : goal.returns
unfolding char_at
returns c = skip _ (lt-leb _ _ c.if-text-at.false) (cc)
