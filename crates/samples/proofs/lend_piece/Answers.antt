-- `samples::lend_piece` meets its contract: after i turns the first i bytes of the piece are those that are lent.
-- Assumes nothing.
use Rattle.std.proofs.Common.{◌≡◌, ◌+◌, ◌%◌, add-zero, arith}
use Rattle.laws.proofs.Written.{written_none, written_more}
use Rattle.samples.specs.Sample.{lent_at}
use Rattle.samples.proofs.lend_piece.Goals as goal

pub loop-i-init : goal.loop-i-init
loop-i-init c = rw add-zero (written_none lent_at c.args.at c.args.buffer.now)

pub loop-i-preserved : goal.loop-i-preserved
loop-i-preserved c = let at = c.args.at in
    let i = c.loop-i.i in
    let e : at + (i + 1) ≡ at + i + 1 = omega arith in
    let byte : i + 1 ≡ (at + i) % 251 + 1 = omega arith in
    rw e (written_more lent_at at (at + i) c.args.buffer.now c.loop-i.buffer (i + 1) (omega arith) (omega arith) byte c.loop-i.invariant)

pub returns : goal.returns
returns c = let e : c.args.at + c.loop-i.i ≡ c.args.end = omega arith in rw e at c.loop-i.invariant
