-- `next` of the characters meets its contract: each item moves the offset on, and not past the end.
-- Assumes nothing.
use mathlib.Core.Path.{sym, ◌∙◌}
use native.Mathlib.Omega.{arith}
use Rattle.sensitive.proofs.Given.{bad_inside}
use Rattle.sensitive.proofs.Texts.{char_moves}
use Rattle.sensitive.proofs.CharsIterator.next.Goals as goal

pub returns-in-Point-clause-goes : goal.returns-in-Point-clause-goes
returns-in-Point-clause-goes c =
    let m = char_moves c.args.self.now.text.now c.args.self.now.at _ _ (sym c.char_at.ensures ∙ c.in-Point.is) in
    record { on = λ f. (tt, f, omega arith); keeps = tt; rests = λ f. f }

pub returns-in-Malformed-clause-goes : goal.returns-in-Malformed-clause-goes
returns-in-Malformed-clause-goes c =
    let m = bad_inside c.args.self.now.text.now c.args.self.now.at (sym c.char_at.ensures ∙ c.in-Malformed.is) in
    record { on = λ f. (tt, f, omega arith); keeps = tt; rests = λ f. f }
