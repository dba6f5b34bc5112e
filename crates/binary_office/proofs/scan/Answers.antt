-- `binary_office::scan` meets its contract: at each header the scan from there is the scan from the start, and each way out is one case of it.
-- Assumes nothing.
use mathlib.Core.Path.{sym, ◌∙◌}
use Rattle.binary_office.proofs.Locks.{scan_no_id, scan_no_len, scan_found, scan_absent, scan_past, scan_on}
use Rattle.binary_office.proofs.scan.Goals as goal

pub loop-id-preserved : goal.loop-id-preserved
loop-id-preserved c = (
  c.if-book-end.false,
  scan_on c.args.book.now c.loop-id.at _ _ (c.in-Some.ensures)
      (c.in-Some-le16.ensures) c.if-id-eq47.false
      (sym c.never_encrypted.ensures ∙ c.if-not-never_encrypted.false) c.if-book-end.false ∙ c.loop-id.invariant.1,
)

pub returns-in_default : goal.returns-in_default
returns-in_default c = scan_no_id c.args.book.now c.loop-id.at (c.in_default.ensures) ∙ c.loop-id.invariant.1

pub returns-in_default-le16 : goal.returns-in_default-le16
returns-in_default-le16 c = scan_no_len c.args.book.now c.loop-id.at _ (c.in-Some.ensures)
    (c.in_default-le16.ensures) ∙ c.loop-id.invariant.1

pub returns-then-id-eq47 : goal.returns-then-id-eq47
returns-then-id-eq47 c = scan_found c.args.book.now c.loop-id.at _ _ (c.in-Some.ensures)
    (c.in-Some-le16.ensures) c.if-id-eq47.true ∙ c.loop-id.invariant.1

pub returns-then-not-never_encrypted : goal.returns-then-not-never_encrypted
returns-then-not-never_encrypted c = scan_absent c.args.book.now c.loop-id.at _ _ (c.in-Some.ensures)
    (c.in-Some-le16.ensures) c.if-id-eq47.false (sym c.never_encrypted.ensures ∙ c.if-not-never_encrypted.true)
    ∙ c.loop-id.invariant.1

pub returns-then-book-end : goal.returns-then-book-end
returns-then-book-end c = scan_past c.args.book.now c.loop-id.at _ _ (c.in-Some.ensures)
    (c.in-Some-le16.ensures) c.if-id-eq47.false
    (sym c.never_encrypted.ensures ∙ c.if-not-never_encrypted.false) c.if-book-end.true ∙ c.loop-id.invariant.1
