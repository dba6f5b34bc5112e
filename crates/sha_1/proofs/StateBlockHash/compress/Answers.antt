-- `sha_1::StateBlockHash::compress` meets its contract: each twenty rounds have their function and their constant, and the rounds chain
-- from the value before.
-- Assumes nothing.
use Rattle.std.proofs.Common.{◌≡◌, length, take, sym, ◌∙◌, take_all, arith, rules}
use Rattle.sha_1.proofs.Rounds.{f_ch, k_ch, f_parity, k_parity, f_maj, k_maj, f_last, k_last, none_yet}
use Rattle.sha_1.specs.Sha1.{schedule, compressed}
use Rattle.sha_1.proofs.StateBlockHash.compress.Goals as goal

pub twenty-v-requires-clause-function : goal.twenty-v-requires-clause-function
twenty-v-requires-clause-function c = λ t x y z r g l p. p ∙ sym (f_ch t x y z l)

pub twenty-v-requires-clause-told : goal.twenty-v-requires-clause-told
twenty-v-requires-clause-told c = λ t g l. sym (k_ch t l)

pub twenty-v-requires-2-clause-function : goal.twenty-v-requires-2-clause-function
twenty-v-requires-2-clause-function c = λ t x y z r g l p. p ∙ sym (f_parity t x y z g l)

pub twenty-v-requires-2-clause-told : goal.twenty-v-requires-2-clause-told
twenty-v-requires-2-clause-told c = λ t g l. sym (k_parity t g l)

pub twenty-v-requires-3-clause-function : goal.twenty-v-requires-3-clause-function
twenty-v-requires-3-clause-function c = λ t x y z r g l p. p ∙ sym (f_maj t x y z g l)

pub twenty-v-requires-3-clause-told : goal.twenty-v-requires-3-clause-told
twenty-v-requires-3-clause-told c = λ t g l. sym (k_maj t g l)

pub twenty-v-requires-4-clause-function : goal.twenty-v-requires-4-clause-function
twenty-v-requires-4-clause-function c = λ t x y z r g l p. p ∙ sym (f_last t x y z g)

pub twenty-v-requires-4-clause-told : goal.twenty-v-requires-4-clause-told
twenty-v-requires-4-clause-told c = λ t g l. sym (k_last t g)

pub returns : goal.returns
unfolding compressed
returns c =
    let h = c.args.self in
    let m = c.args.block.now in
    let w = c.extend-4.new.w in
    let s : take 80 w ≡ schedule m 80 = c.extend-4.ensures m (c.extend-3.ensures m (c.extend-2.ensures m (c.extend.ensures m c.load-w.ensures.1))) in
    let l : length w ≡ 80 = search rules in
    let r = c.twenty-v-4.ensures h (c.twenty-v-3.ensures h (c.twenty-v-2.ensures h (c.twenty-v.ensures h (none_yet w h)))) in
    rw (r, sym (take_all 80 w (omega arith)) ∙ s) at c.add.ensures
