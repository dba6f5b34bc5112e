-- `md_5::StateBlockHash::compress` meets its contract: each round has its function, and the rounds chain from the value before.
-- Assumes nothing.
use Rattle.std.proofs.Common.{sym, ◌∙◌}
use Rattle.md_5.proofs.Steps.{mixed_F, mixed_G, mixed_H, mixed_I, none_yet}
use Rattle.md_5.specs.Md5.{compressed}
use Rattle.md_5.proofs.StateBlockHash.compress.Goals as goal

pub round-v-requires-clause-function : goal.round-v-requires-clause-function
round-v-requires-clause-function c = λ t x y z r g l p. p ∙ sym (mixed_F t x y z l)

pub round-v-requires-2-clause-function : goal.round-v-requires-2-clause-function
round-v-requires-2-clause-function c = λ t x y z r g l p. p ∙ sym (mixed_G t x y z g l)

pub round-v-requires-3-clause-function : goal.round-v-requires-3-clause-function
round-v-requires-3-clause-function c = λ t x y z r g l p. p ∙ sym (mixed_H t x y z g l)

pub round-v-requires-4-clause-function : goal.round-v-requires-4-clause-function
round-v-requires-4-clause-function c = λ t x y z r g l p. p ∙ sym (mixed_I t x y z g)

pub returns : goal.returns
unfolding compressed
returns c =
    let h = c.args.self in
    let r = c.round-v-4.ensures h (c.round-v-3.ensures h (c.round-v-2.ensures h (c.round-v.ensures h (none_yet c.load-x.result h)))) in
    rw (r, c.load-x.ensures) at c.add.ensures
