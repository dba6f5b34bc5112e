-- `rc4_office97::parse` meets its contract: one question.
-- Assumes nothing.
use mathlib.Core.Path.{refl, ap}
use borrow.Author.Tests.{le-leb, lt-leb}
use Rattle.file_params.specs.Questions.{asked, office97}
use Rattle.file_params.proofs.Laws.{past, refused}
use Rattle.rc4_office97.specs.Parse.{parsed}
use Rattle.file_params.specs.Questions.{unless}
use Rattle.rc4_office97.proofs.parse.Goals as goal

pub returns-then-have-lt-HEADER_LEN : goal.returns-then-have-lt-HEADER_LEN
unfolding asked office97 parsed
returns-then-have-lt-HEADER_LEN c = ap (unless tt) (refused _ (lt-leb _ _ c.if-have-lt-HEADER_LEN.true))

pub returns : goal.returns
unfolding asked office97 parsed
returns c = ap (unless tt) (past _ (le-leb _ _ c.if-have-lt-HEADER_LEN.false) refl)
