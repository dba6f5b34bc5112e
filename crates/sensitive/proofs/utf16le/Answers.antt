-- `sensitive::utf16le` meets its contract: one unit below 10000, else two, from what the calls say of each byte.
-- Assumes nothing.
use Rattle.sensitive.proofs.Utf16.{units_1, units_2}
use Rattle.sensitive.proofs.utf16le.Goals as goal

pub returns-then-point-lt65536 : goal.returns-then-point-lt65536
returns-then-point-lt65536 c = rw (c.unit.ensures, units_1 _ c.if-point-lt65536.true)

pub returns : goal.returns
returns c = rw (c.unit-2.ensures, c.unit-3.ensures, units_2 _ c.if-point-lt65536.false)
