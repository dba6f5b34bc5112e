-- `binary_office::look` meets its contract: each finding in the part that is looked at has its verdict.
-- Assumes nothing.
use Rattle.std.proofs.Common.{refl, sym, ap, ◌∙◌}
use Rattle.binary_office.specs.Look.{found}
use Rattle.binary_office.proofs.Locks.{look_found}
use Rattle.binary_office.proofs.Bodies.{starts_within}
use Rattle.binary_office.proofs.look.Goals as goal

pub body_at-requires : goal.body_at-requires
body_at-requires c = starts_within c.in-Filepass.start c.in-Filepass.len _ (sym c.in-Filepass.ensures)

pub returns-in-Unreadable : goal.returns-in-Unreadable
returns-in-Unreadable c = look_found c.args.stream.now _ _ (c.in-Unreadable.ensures ∙ ap found c.capped-book.ensures) refl

pub returns-in-Other : goal.returns-in-Other
returns-in-Other c = look_found c.args.stream.now _ _ (c.in-Other.ensures ∙ ap found c.capped-book.ensures) refl

pub returns-in-Filepass : goal.returns-in-Filepass
returns-in-Filepass c = look_found c.args.stream.now _ _ (c.in-Filepass.ensures ∙ ap found c.capped-book.ensures)
    (rw (c.facts_of.ensures, c.body_at.ensures, c.capped-book.ensures) refl)
