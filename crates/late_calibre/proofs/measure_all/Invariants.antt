-- `late_calibre::measure_all` ends: each turn takes a sheet and its lengths from what is left.
use Rattle.std.proofs.Common.{length}
use Rattle.late_calibre.proofs.measure_all.Given as goal

abbrev pub decreases-loop-sheets : goal.decreases-loop-sheets
decreases-loop-sheets g l = length l.sheets
