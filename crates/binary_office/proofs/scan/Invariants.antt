-- `binary_office::scan` meets its contract: at each header the scan from there is the scan from the start, and each way out is one case of it.
-- Assumes nothing.
use mathlib.Core.Path.{◌≡◌}
use Prim.Native.Nat.{◌≤◌, ◌-◌}
use lib.ListN.{length}
use Rattle.binary_office.specs.Look.{scan_at}
use Rattle.binary_office.proofs.scan.Given as goal

abbrev pub invariant-loop-id : goal.invariant-loop-id
invariant-loop-id l = (l.at ≤ length l.book) × (scan_at l.book l.at ≡ scan_at l.book 0)

abbrev pub decreases-loop-id : goal.decreases-loop-id
decreases-loop-id l = length l.book - l.at
