-- `xor_obfuscation::in_pieces` meets its contract: after k turns the first k pieces are put through, and the last piece starts at or before their end.
-- Assumes nothing.
use Rattle.std.proofs.Common.{◌≡◌, ◌+◌, ◌-◌, ◌*◌, ◌%◌, arith}
use Rattle.laws.proofs.Written.{written_join}
use Rattle.xor_obfuscation.specs.Xor.{transformed_at}
use Rattle.xor_obfuscation.proofs.Pieces.{last_start, piece_written, written_over}
use Rattle.xor_obfuscation.proofs.in_pieces.Goals as goal

pub put-requires : goal.put-requires
put-requires g c = let same = c.loop-k.invariant.same in omega arith

pub put-requires-2 : goal.put-requires-2
put-requires-2 g c = let same = c.loop-k.invariant.same in omega arith

pub loop-k-preserved : goal.loop-k-preserved
loop-k-preserved g c = let at = 16 * c.loop-k.k in
    let e : c.args.index % 16 ≡ (c.args.index + at) % 16 = omega arith in
    let s : at + 16 ≡ 16 * (c.loop-k.k + 1) = omega arith in
    let w = piece_written g.D.Direction.way c.args.array.now c.args.index c.args.src.now (c.args.index % 16) at c.doubled-twice.result c.piece.result c.loop-k.dst _
    e c.doubled-twice.ensures c.piece.ensures c.put.ensures in
    rw (← s) (written_join (transformed_at g.D.Direction.way c.args.array.now c.args.index c.args.src.now) 0 at (at + 16) c.args.dst.now c.loop-k.dst _ (omega arith)
    (omega arith) c.loop-k.invariant w)

pub returns : goal.returns
returns g c = let last = c.args.n - 16 in
    let s : last + 16 ≡ c.args.n = omega arith in
    let w = piece_written g.D.Direction.way c.args.array.now c.args.index c.args.src.now ((c.args.index % 16 + c.args.n) % 16) last c.doubled-twice.result
    c.piece-2.result c.loop-k.dst _ (last_start c.args.index c.args.n c.requires.0) c.doubled-twice.ensures c.piece-2.ensures c.put-2.ensures in
    written_over (transformed_at g.D.Direction.way c.args.array.now c.args.index c.args.src.now) last (16 * c.loop-k.k) c.args.n c.args.dst.now c.loop-k.dst _ (omega arith)
    (omega arith) c.loop-k.invariant (rw s at w)
