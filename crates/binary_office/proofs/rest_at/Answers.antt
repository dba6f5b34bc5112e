-- `binary_office::rest_at` meets its contract: the bytes up to the index are zero, so that the end is told where no other byte was met.
-- Assumes nothing.
use native.Mathlib.Omega.{arith}
use lib.ListN.{length, get_or-eq_default}
use Rattle.laws.proofs.Choice.{either}
use Rattle.binary_office.proofs.Headers.{step_end, step_short}
use Rattle.binary_office.proofs.rest_at.Goals as goal

pub returns-then-s-i-ne0 : goal.returns-then-s-i-ne0
returns-then-s-i-ne0 c = step_short c.args.s.now c.args.at (λ a. c.if-s-i-ne0.true (a.zeros c.loop-i.i c.loop-i.invariant.0)) c.requires

pub returns : goal.returns
returns c = step_end c.args.s.now c.args.at
    (record { few = c.requires; zeros = λ o h. either (length c.args.s.now) o (get_or-eq_default c.args.s.now 0) (λ k. c.loop-i.invariant.1 o h (omega arith)) })
