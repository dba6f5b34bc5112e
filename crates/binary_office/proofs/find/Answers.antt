-- `binary_office::find` meets its contract: each way out is one case of what a book has.
-- Assumes nothing.
use Rattle.binary_office.proofs.Locks.{found_short, found_scan, found_other}
use Rattle.binary_office.proofs.find.Goals as goal

pub returns-in_default : goal.returns-in_default
returns-in_default c = found_short c.args.book.now (c.in_default.ensures)

pub returns-then-id-eq2057 : goal.returns-then-id-eq2057
returns-then-id-eq2057 c = let h = c.in-Some.ensures in
    found_scan c.args.book.now _ h c.scan.result c.if-id-eq2057.true c.scan.ensures

pub returns-else-id-eq2057 : goal.returns-else-id-eq2057
returns-else-id-eq2057 c = let h = c.in-Some.ensures in
    found_other c.args.book.now _ h c.if-id-eq2057.false
