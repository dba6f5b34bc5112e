-- `binary_office::step_at` meets its contract: a header that is there decides, and where it is cut short `rest_at` does.
-- Assumes nothing.
use Prim.Native.Nat.{◌+◌}
use native.Mathlib.Omega.{arith}
use Rattle.binary_office.proofs.Headers.{le16_within, le16_cut, step_record, step_past}
use Rattle.binary_office.proofs.step_at.Goals as goal

pub rest_at-requires : goal.rest_at-requires
rest_at-requires c = let cut = le16_cut c.args.s.now c.args.at (c.in_default.ensures) in
    omega arith

pub overflow_add-at : goal.overflow_add-at
overflow_add-at c = let there = le16_within c.args.s.now c.args.at _ (c.in-Some.ensures) in
    record { fits = omega arith }

pub rest_at-requires-in_default-le16 : goal.rest_at-requires-in_default-le16
rest_at-requires-in_default-le16 c = let cut = le16_cut c.args.s.now (c.args.at + 2) (c.in_default-le16.ensures) in
    omega arith

pub overflow_add-at-3 : goal.overflow_add-at-3
overflow_add-at-3 c = let there = le16_within c.args.s.now (c.args.at + 2) _ (c.in-Some-le16.ensures) in
    record { fits = omega arith }

pub overflow_add-at-2 : goal.overflow_add-at-2
overflow_add-at-2 c = let whole = (overflow_add-at-3 c).fits in record { fits = omega arith }

pub returns-then-at-len : goal.returns-then-at-len
returns-then-at-len c = step_record c.args.s.now c.args.at _ _ (c.in-Some.ensures)
    (c.in-Some-le16.ensures) c.if-at-len.true

pub returns-else-at-len : goal.returns-else-at-len
returns-else-at-len c = step_past c.args.s.now c.args.at _ _ (c.in-Some.ensures)
    (c.in-Some-le16.ensures) c.if-at-len.false
