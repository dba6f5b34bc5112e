-- `listing_text::put_bytes` meets its contract: after i turns the first i bytes are written.
-- Assumes nothing.
use borrow.Author.Rules.{rules}
use mathlib.Core.Path.{◌∙◌}
use native.Mathlib.Omega.{arith}
use Rattle.listing_text.proofs.Written.{puts_more}
use Rattle.listing_text.proofs.put_bytes.Goals as goal

pub loop-i-preserved : goal.loop-i-preserved
loop-i-preserved c = (
  search rules,
  puts_more c.args.bytes.now c.loop-i.i c.loop-i-test.true c.loop-i.invariant.1
      c.put-at.ensures,
  omega arith,
  c.put-at.auto.out ∙ c.loop-i.invariant.3,
)
