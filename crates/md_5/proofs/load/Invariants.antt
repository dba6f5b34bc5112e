-- `md_5::load` meets its contract: after each turn one word more of the block is loaded.
-- Assumes nothing.
use Rattle.std.proofs.Common.{◌≡◌, ℕ, ◌*◌, length, take}
use Rattle.laws.specs.Offsets.{tabulate}
use Rattle.word.specs.Word.{le32}
use Rattle.md_5.proofs.load.Given as goal

abbrev pub invariant-loop-i : goal.invariant-loop-i
invariant-loop-i l = (length l.x ≡ 16) × (take l.i l.x ≡ tabulate (λ (n : ℕ). le32 l.block (n * 4)) l.i)
