-- `directory::next_sheet` meets its contract: from where the walker is on, the BoundSheet8 records are those from the start of the search on.
-- Assumes nothing.
use mathlib.Core.Path.{◌≡◌}
use Rattle.binary_office.specs.Walk.{walk_at}
use Rattle.binary_office.proofs.Records.{On}
use Rattle.directory.specs.Directory.{bound_sheets}
use Rattle.directory.proofs.next_sheet.Given as goal

abbrev pub invariant-loop-record : goal.invariant-loop-record
invariant-loop-record l = On l.stream l.record-iterator × (bound_sheets (walk_at l.stream l.record-iterator.pos).records ≡ bound_sheets (walk_at l.stream l.from).records)
