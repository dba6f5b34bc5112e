-- `rc4::table_of` meets its contract: the table is filled with 0 to 255, and after i turns more it and the locals are the mixing after the first i values.
-- Assumes nothing.
use Rattle.std.proofs.Common.{◌≡◌, ℕ, ◌%◌, length, take, get_or}
use Rattle.laws.specs.Offsets.{tabulate}
use Rattle.rc4.specs.Steps.{MixedTo}
use Rattle.rc4.proofs.table_of.Given as goal

abbrev pub invariant-loop-i : goal.invariant-loop-i
invariant-loop-i l = (length l.entry-items ≡ 256) × (take l.i l.entry-items ≡ tabulate (λ (n : ℕ). n) l.i)

abbrev pub invariant-loop-i-2 : goal.invariant-loop-i-2
invariant-loop-i-2 l = (length l.table ≡ 256) × MixedTo l.key l.i (record { j = l.j; index = l.index; entry = get_or l.table (l.i % 256) 0 }) l.table
