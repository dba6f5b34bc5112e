-- `sensitive::character` meets its contract: the rules of section 4 are tried in their order, and the first that takes the bytes answers.
-- Assumes nothing.
use mathlib.Core.Path.{refl, sym, ◌∙◌}
use Rattle.laws.proofs.Choice.{stop, skip}
use Rattle.sensitive.specs.Utf8.{character}
use Rattle.sensitive.proofs.character.Goals as goal

pub returns-then-within : goal.returns-then-within
unfolding character
returns-then-within c = rw c.from.ensures (stop _ (sym c.within.ensures ∙ c.if-within.true))

pub returns-then-two : goal.returns-then-two
unfolding character
returns-then-two c = rw c.point2.ensures (skip _ (sym c.within.ensures ∙ c.if-within.false) (stop _ (sym c.two.ensures ∙ c.if-two.true)))

pub returns-then-three : goal.returns-then-three
unfolding character
returns-then-three c =
    rw c.point3.ensures
    (skip _ (sym c.within.ensures ∙ c.if-within.false) (skip _ (sym c.two.ensures ∙ c.if-two.false) (stop _ (sym c.three.ensures ∙ c.if-three.true))))

pub returns-then-four : goal.returns-then-four
unfolding character
returns-then-four c =
    rw c.point4.ensures
    (skip _ (sym c.within.ensures ∙ c.if-within.false) (skip _ (sym c.two.ensures ∙ c.if-two.false) (skip _ (sym c.three.ensures ∙ c.if-three.false)
    (stop _ (sym c.four.ensures ∙ c.if-four.true)))))

pub returns : goal.returns
unfolding character
returns c =
    skip _ (sym c.within.ensures ∙ c.if-within.false) (skip _ (sym c.two.ensures ∙ c.if-two.false) (skip _ (sym c.three.ensures ∙ c.if-three.false)
    (skip _ (sym c.four.ensures ∙ c.if-four.false) refl)))
