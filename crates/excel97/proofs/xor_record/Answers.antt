-- `excel97::xor_record` meets its contract: header and clear part are copied, and what is behind them is put through XOR in its place.
-- Assumes nothing.
use mathlib.Core.Path.{refl}
use Rattle.excel97.proofs.Through.{xor_record}
use Rattle.excel97.proofs.xor_record.Goals as goal

pub returns : goal.returns
returns c = (
  c.far_enough-to.ensures.0,
  c.far_enough-to.ensures.1,
  xor_record c.args.way c.args.stream.now c.args.array.now c.args.output.now _ _ c.args.found.at c.args.found.id c.args.found.len c.clear_len-clear.result _ _ _
      c.far_enough-to.ensures.1 c.requires.1 c.clear_len-clear.ensures refl refl c.far_enough-to.ensures.0 c.copy_clear.ensures c.transform.ensures,
)
