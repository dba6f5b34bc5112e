-- `sensitive::put_text` meets its contract: the loop's invariant is that the encoding of the characters that the iterator has given is the first `n`
-- bytes of out. What is required says that the text is well formed and that its encoding is as long as out, so each character has room.
-- Assumes nothing.
use mathlib.Core.Path.{◌≡◌}
use lib.ListN.{take}
use Rattle.sensitive.specs.Utf16.{utf16les}
use Rattle.sensitive.proofs.Given.{Encodes}
use Rattle.sensitive.proofs.put_text.Given as goal

abbrev pub invariant-loop-point : goal.invariant-loop-point
invariant-loop-point l = (w : Encodes l.text l.point-iterator l.n) × (take l.n l.out ≡ utf16les w.ps)
