-- `binary_office::same_bytes` meets its contract: slices of one length whose bytes are the same are one list, and others are not.
-- Assumes nothing.
use Rattle.std.proofs.Common.{sym, ap, ℕ, List, length, slice_index_or, rules, ◌≡◌}
use native.Mathlib.Omega.{arith}
use lib.Seq.{ext_get_or}
use Rattle.binary_office.proofs.SameLock.{equal_bytes, other_bytes}
use Rattle.binary_office.proofs.same_bytes.Goals as goal

pub returns-then-a-b : goal.returns-then-a-b
returns-then-a-b c = sym (other_bytes c.args.a.now c.args.b.now (λ e. let lengths = ap length e in omega arith))

pub returns-then-x-b : goal.returns-then-x-b
returns-then-x-b c = sym (other_bytes c.args.a.now c.args.b.now (λ e. c.if-x-b.true (ap (λ (l : List ℕ). slice_index_or l c.loop-i.i 0) e)))

pub returns : goal.returns
returns c =
    sym
    (equal_bytes c.args.a.now c.args.b.now
    (ext_get_or 0 c.args.a.now c.args.b.now c.if-a-b.false (λ j h. c.loop-i.invariant j (omega arith))))
