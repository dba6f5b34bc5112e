-- `password_digest::next_byte` meets its contract: it goes by what stands at the offset, and by whether the character has more bytes.
-- Assumes nothing.
use Rattle.std.proofs.Common.{sym, arith}
use Rattle.sensitive.proofs.Utf16.{spells}
use Rattle.password_digest.proofs.Steps.{stays, moves, ends, breaks}
use Rattle.password_digest.proofs.next_byte.Goals as goal

pub invariant_of-result : goal.invariant_of-result
invariant_of-result c = let four = (spells _ _ c.utf16le-units.ensures).small in record { inner = omega arith }

pub returns-then-more-units : goal.returns-then-more-units
returns-then-more-units c =
    let p = c.args.place in
    stays c.args.text.now p.at p.skip _ _ (sym c.in-Point.ensures) c.utf16le-units.result (spells _ _ c.utf16le-units.ensures) p.inner c.if-more-units.true

pub returns-else-more-units : goal.returns-else-more-units
returns-else-more-units c =
    let p = c.args.place in
    moves c.args.text.now p.at p.skip _ _ (sym c.in-Point.ensures) c.utf16le-units.result (spells _ _ c.utf16le-units.ensures) p.inner c.if-more-units.false

pub returns-in-Malformed : goal.returns-in-Malformed
returns-in-Malformed c = breaks _ _ _ (sym c.in-Malformed.ensures)

pub returns-in-End : goal.returns-in-End
returns-in-End c = ends _ _ _ (sym c.in-End.ensures)
