-- `rc4::apply_both` meets its contract: the keystreams' bytes, and then exclusive-or the source's.
-- Assumes nothing.
use Rattle.std.proofs.Common.{◌≡◌, ℕ, ◌/◌, ap}
use Rattle.rc4.specs.Rc4.{half}
use Rattle.rc4.proofs.Halves.{applies_halves}
use Rattle.rc4.proofs.apply_both.Goals as goal

pub returns : goal.returns
returns c = let h = c.min-h.result / 2 in
    let eh : h ≡ half c.args.src.now c.args.dst.now = ap (λ (n : ℕ). n / 2) c.min-h.ensures in
    applies_halves _ _ c.args.src.now c.args.dst.now _ _ h eh c.give_both.ensures c.exclusive_or.ensures
