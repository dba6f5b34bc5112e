-- `samples::lend` meets its contract: after k turns the first k pieces are lent, the last of them as far as there is room.
-- Assumes nothing.
use Rattle.std.proofs.Common.{◌≡◌, ◌+◌, ◌*◌, ◌∙◌, ap, ℕ, List, ◌++◌, min, length, arith}
use Rattle.std.proofs.Math.Seq.{drop-length}
use mathlib.Core.List.{append-nil}
use Rattle.laws.specs.Offsets.{tabulate}
use Rattle.laws.proofs.Written.{written_none, written_join, written_all}
use Rattle.samples.specs.Sample.{lent_at}
use Rattle.samples.proofs.lend.Goals as goal

pub loop-k-init : goal.loop-k-init
loop-k-init c = let e : min 0 (length c.args.buffer.now) ≡ 0 = omega arith in rw e (written_none lent_at 0 c.args.buffer.now)

pub loop-k-preserved : goal.loop-k-preserved
loop-k-preserved c = let size = length c.args.buffer.now in
    let k = c.loop-k.k in
    let pieces = c.div_ceil-k-end.ensures in
    let start : min (251 * k) size ≡ 251 * k = omega arith in
    let end : min (251 * (k + 1)) size ≡ c.min-end.result = omega arith in
    rw end (written_join lent_at 0 (251 * k) c.min-end.result c.args.buffer.now c.loop-k.buffer _ (omega arith) (omega arith) (rw start at c.loop-k.invariant) c.lend_piece.ensures)

pub returns : goal.returns
returns c = let buffer = c.args.buffer.now in
    let pieces = c.div_ceil-k-end.ensures in
    let all : min (251 * c.loop-k.k) (length buffer) ≡ length buffer = omega arith in
    written_all lent_at (length buffer) buffer c.loop-k.buffer (omega arith) (rw all at c.loop-k.invariant)
    ∙ ap (λ (l : List ℕ). tabulate lent_at (length buffer) ++ l) (drop-length buffer)
    ∙ append-nil _
