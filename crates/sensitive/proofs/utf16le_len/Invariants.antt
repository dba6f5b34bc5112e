-- `sensitive::utf16le_len` meets its contract: the loop's invariant is that the encoding of the characters that the iterator has given takes `len`
-- bytes, at most two for each byte of the text, so that no sum wraps.
-- Assumes nothing.
use Rattle.sensitive.proofs.Given.{Encodes}
use Rattle.sensitive.proofs.utf16le_len.Given as goal

abbrev pub invariant-loop-point : goal.invariant-loop-point
invariant-loop-point l = Encodes l.text l.point-iterator l.len
