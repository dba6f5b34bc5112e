-- `rc4::apply_halves` meets its contract: both keys' lengths were asked, and the tables are those of the keys.
-- Assumes nothing.
use Rattle.std.proofs.Common.{refl, ◌∙◌}
use Rattle.laws.proofs.Choice.{stop, skip}
use Rattle.rc4.proofs.Halves.{halves_keyed}
use Rattle.rc4.proofs.apply_halves.Goals as goal

pub returns-then-not-fits-clause-dst_after : goal.returns-then-not-fits-clause-dst_after
returns-then-not-fits-clause-dst_after c = skip _ refl refl

pub returns-clause-dst_after : goal.returns-clause-dst_after
returns-clause-dst_after c =
    halves_keyed c.args.key.now c.args.other.now _ _ c.args.src.now c.args.dst.now _ c.mix_both.ensures.0 c.mix_both.ensures.1 c.apply_both.ensures ∙ stop _ refl
