-- `binary_office::bits_of` meets its contract: each way out is one case of the definition.
-- Assumes nothing.
use mathlib.Core.Path.{◌≡◌}
use Prim.Native.Nat.{◌≤◌, ◌<◌}
use Rattle.binary_office.proofs.Locks.{bits_zero, bits_stated, bits_above}
use Rattle.binary_office.proofs.bits_of.Goals as goal

pub returns-then-stated-eq0 : goal.returns-then-stated-eq0
returns-then-stated-eq0 c = let zero : c.args.stated ≡ 0 = c.if-stated-eq0.true in
    bits_zero c.args.stated zero

pub returns-then-stated-le4096 : goal.returns-then-stated-le4096
returns-then-stated-le4096 c = let fits : c.args.stated ≤ 4096 = c.if-stated-le4096.true in
    bits_stated c.args.stated c.if-stated-eq0.false fits

pub returns-else-stated-le4096 : goal.returns-else-stated-le4096
returns-else-stated-le4096 c = let above : 4096 < c.args.stated = c.if-stated-le4096.false in
    bits_above c.args.stated c.if-stated-eq0.false above
