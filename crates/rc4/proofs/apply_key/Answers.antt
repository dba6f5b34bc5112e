-- `rc4::apply_key` meets its contract: the key's length was asked, and the table is that of the key.
-- Assumes nothing.
use Rattle.std.proofs.Common.{refl, ◌∙◌}
use Rattle.laws.proofs.Choice.{stop, skip}
use Rattle.rc4.proofs.Halves.{one_keyed}
use Rattle.rc4.proofs.apply_key.Goals as goal

pub returns-then-not-fits-clause-dst_after : goal.returns-then-not-fits-clause-dst_after
returns-then-not-fits-clause-dst_after c = skip _ refl refl

pub returns-clause-dst_after : goal.returns-clause-dst_after
returns-clause-dst_after c =
    one_keyed c.args.key.now _ c.args.src.now c.args.dst.now _ _ _ c.mix_all.ensures c.min-n.ensures c.give.ensures c.exclusive_or.ensures ∙ stop _ refl
