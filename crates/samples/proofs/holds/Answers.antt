-- `samples::holds` meets its contract: the bytes behind the front up to the index are as they were lent.
-- Assumes nothing.
use mathlib.Core.Path.{◌≡◌, refl, sym, ◌∙◌}
use Prim.Native.Nat.{◌+◌, ◌-◌, ◌<◌}
use native.Mathlib.Nat.{not-suc-le-zero}
use native.Mathlib.Omega.{arith}
use lib.ListN.{length, get_or}
use Rattle.std.specs.Cmp.Lexicographic.{same_text, other_text}
use Rattle.laws.proofs.Choice.{either}
use Rattle.samples.specs.Sample.{lent_at}
use Rattle.samples.proofs.Held.{front_held, length_rest, at_rest, byte_held, held, not_held}
use Rattle.samples.proofs.holds.Goals as goal

pub returns-in_default : goal.returns-in_default
returns-in_default c =
    not_held c.args.front.now c.args.buffer.now _ refl
    (λ e. other_text _ _ (sym c.in_default.ensures.cases) (front_held c.args.front.now c.args.buffer.now _ refl e))

pub loop-i-init : goal.loop-i-init
loop-i-init c n g h =
    let long = length_rest c.args.front.now c.args.buffer.now c.in-Some.rest.now c.in-Some.ensures.cases.1 in
    let none : n < 0 = omega arith in
    absurd (not-suc-le-zero none)

pub returns-then-buffer-i : goal.returns-then-buffer-i
returns-then-buffer-i c =
    let front = c.args.front.now in
    let buffer = c.args.buffer.now in
    let rest = c.in-Some.rest.now in
    let q = c.in-Some.ensures.cases.1 in
    let long = length_rest front buffer rest q in
    let k = c.loop-i.i - length front in
    let e : length front + k ≡ c.loop-i.i = omega arith in
    not_held front buffer rest q
    (λ held. c.if-buffer-i.true (rw e at (sym (at_rest front buffer rest q k) ∙ byte_held front buffer rest q held k (omega arith)) ∙ sym c.lent_byte.ensures))

pub loop-i-preserved : goal.loop-i-preserved
loop-i-preserved c n g h =
    let last : n ≡ c.loop-i.i → get_or c.args.buffer.now n 0 ≡ lent_at n = λ e. rw e (c.if-buffer-i.false ∙ c.lent_byte.ensures) in
    either c.loop-i.i n (λ k. last (omega arith)) (λ k. c.loop-i.invariant n g k)

pub returns : goal.returns
returns c =
    let front = c.args.front.now in
    let buffer = c.args.buffer.now in
    let rest = c.in-Some.rest.now in
    let q = c.in-Some.ensures.cases.1 in
    let long = length_rest front buffer rest q in
    let f = same_text _ _ (sym c.in-Some.ensures.cases.0) in
    (λ h. held front buffer rest q f (λ j k. at_rest front buffer rest q j ∙ c.loop-i.invariant (length front + j) (omega arith) (omega arith)), λ e. refl)
