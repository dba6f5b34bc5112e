-- `listing_text::put_fault` meets its contract: the parts of the line, one behind the other.
-- Assumes nothing.
use Rattle.listing_text.proofs.Written.{puts_join}
use mathlib.Core.List.{◌++◌}
use Rattle.listing_text.specs.Text.{unreadable, decimal}
use Rattle.listing_text.proofs.put_fault.Goals as goal

pub returns : goal.returns
returns c = puts_join (unreadable ++ decimal c.args.place) _
    (puts_join unreadable _ c.put_bytes-n.ensures c.put_decimal-n.ensures.0) c.put.ensures
