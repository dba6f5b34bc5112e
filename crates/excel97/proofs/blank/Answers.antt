-- `excel97::blank` meets its contract: the id is zeroed, and then the body.
-- Assumes nothing.
use Prim.Native.Nat.{◌+◌}
use native.Mathlib.Omega.{arith}
use Rattle.excel97.proofs.Blanked.{blanks}
use Rattle.excel97.proofs.Zeroed.{zeroed}
use Rattle.excel97.proofs.blank.Goals as goal

pub returns : goal.returns
returns c =
    let at = c.args.filepass.at in
    let end = at + 4 + c.args.filepass.len in
    let room = c.requires in
    let id = zeroed at (at + 2) c.args.output.now _ (omega arith) (omega arith) (c.fill.ensures.after (λ y g. g)) in
    let same = id.same in
    blanks c.args.filepass c.args.output.now _ _ id (zeroed (at + 4) end _ _ (omega arith) (omega arith) (c.fill-2.ensures.after (λ y g. g)))
