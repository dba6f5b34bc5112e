-- `padding::marked` meets its contract: the bytes are copied, and the mark goes behind them.
-- Assumes nothing.
use Rattle.std.proofs.Common.{List, ℕ, ◌++◌, length, drop, set, replicate, ap, ◌∙◌}
use Rattle.padding.proofs.Mark.{mark}
use Rattle.padding.proofs.marked.Goals as goal

pub returns : goal.returns
returns c =
    let k = length c.args.rest.now in
    ap (λ (s : List ℕ). set (s ++ drop k (replicate 64 0)) k 128) c.copy_from_slice.ensures.after ∙ mark c.args.rest.now c.requires
