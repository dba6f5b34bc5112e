-- `binary_office::le16` meets its contract: the two tests say whether the field lies within.
-- Assumes nothing.
use native.Mathlib.Omega.{arith}
use Rattle.binary_office.proofs.Headers.{le16_short, le16_value}
use Rattle.binary_office.proofs.le16.Goals as goal

pub returns-then-s-lt2 : goal.returns-then-s-lt2
returns-then-s-lt2 c = le16_short c.args.s.now c.args.at (omega arith)

pub returns-then-s-at : goal.returns-then-s-at
returns-then-s-at c = le16_short c.args.s.now c.args.at (omega arith)

pub returns : goal.returns
returns c = le16_value c.args.s.now c.args.at c.two_bytes.result (omega arith) c.two_bytes.ensures
