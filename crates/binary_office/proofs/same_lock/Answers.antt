-- `binary_office::same_lock` meets its contract: where a book has no FILEPASS the locks are not the same, and else the bodies decide.
-- Assumes nothing.
use Rattle.std.proofs.Common.{sym, ap, ◌∙◌}
use Rattle.binary_office.specs.Look.{found}
use Rattle.binary_office.proofs.Bodies.{starts_within}
use Rattle.binary_office.proofs.SameLock.{first_none, second_none, both_found}
use Rattle.binary_office.proofs.same_lock.Goals as goal

pub returns-in_default : goal.returns-in_default
returns-in_default c = first_none c.args.a.now c.args.b.now _ (c.find.ensures ∙ ap found c.capped-book.ensures) c.in_default.not-Filepass

pub returns-in_default-find : goal.returns-in_default-find
returns-in_default-find c = second_none c.args.a.now c.args.b.now _ (c.find-2.ensures ∙ ap found c.capped-other.ensures) c.in_default-find.not-Filepass

pub body_at-requires : goal.body_at-requires
body_at-requires c = starts_within c.in-Filepass.start c.in-Filepass.len _ (sym c.in-Filepass.ensures)

pub body_at-requires-2 : goal.body_at-requires-2
body_at-requires-2 c = starts_within c.in-Filepass-find.place c.in-Filepass-find.size _ (sym c.in-Filepass-find.ensures)

pub returns : goal.returns
returns c =
    c.same_bytes.ensures
    ∙ rw (c.body_at.ensures, c.body_at-2.ensures, c.capped-book.ensures, c.capped-other.ensures)
    (both_found c.args.a.now c.args.b.now c.in-Filepass.start c.in-Filepass.len c.in-Filepass-find.place c.in-Filepass-find.size
    (c.in-Filepass.ensures ∙ ap found c.capped-book.ensures) (c.in-Filepass-find.ensures ∙ ap found c.capped-other.ensures))
