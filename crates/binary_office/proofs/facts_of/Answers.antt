-- `binary_office::facts_of` meets its contract: the body's type picks the case.
-- Assumes nothing.
use Rattle.binary_office.proofs.Locks.{facts_short, facts_xor, facts_other}
use Rattle.binary_office.proofs.facts_of.Goals as goal

pub returns-in_default : goal.returns-in_default
returns-in_default c = facts_short c.args.body.now (c.in_default.ensures)

pub returns-then-kind-eq0 : goal.returns-then-kind-eq0
returns-then-kind-eq0 c = facts_xor c.args.body.now _ (c.in-Some.ensures) c.if-kind-eq0.true

pub returns : goal.returns
returns c = facts_other c.args.body.now _ c.version_of-version.result c.size_of-key_size.result (c.in-Some.ensures)
    c.if-kind-eq0.false c.version_of-version.ensures c.size_of-key_size.ensures
