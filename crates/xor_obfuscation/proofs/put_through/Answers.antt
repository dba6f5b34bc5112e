-- `xor_obfuscation::put_through` meets its contract: one by one or in pieces, it writes the bytes that both slices have room for.
-- Assumes nothing.
use Rattle.xor_obfuscation.proofs.Pieces.{transforms}
use Rattle.xor_obfuscation.proofs.put_through.Goals as goal

pub returns-then-n-lt16 : goal.returns-then-n-lt16
returns-then-n-lt16 g c = transforms g.D.Direction.way c.args.array.now c.args.index c.args.src.now c.args.dst.now _ c.min-n.result c.min-n.ensures c.one_by_one.ensures

pub returns-else-n-lt16 : goal.returns-else-n-lt16
returns-else-n-lt16 g c = transforms g.D.Direction.way c.args.array.now c.args.index c.args.src.now c.args.dst.now _ c.min-n.result c.min-n.ensures c.in_pieces.ensures
