-- `binary_office::le32` meets its contract: the two tests say whether the field lies within.
-- Assumes nothing.
use native.Mathlib.Omega.{arith}
use Rattle.binary_office.proofs.Headers.{le32_short, le32_value}
use Rattle.binary_office.proofs.le32.Goals as goal

pub returns-then-s-lt4 : goal.returns-then-s-lt4
returns-then-s-lt4 c = le32_short c.args.s.now c.args.at (omega arith)

pub returns-then-s-at : goal.returns-then-s-at
returns-then-s-at c = le32_short c.args.s.now c.args.at (omega arith)

pub returns : goal.returns
returns c = le32_value c.args.s.now c.args.at c.from_le_bytes.result (omega arith) c.from_le_bytes.ensures
