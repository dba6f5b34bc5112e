-- `survey::enciphered_len` meets its contract: the tests pick the clear part, which is no longer than its body.
-- Assumes nothing.
use mathlib.Core.Path.{◌≡◌, refl, ap, ◌∙◌}
use mathlib.Core.Bool.{Bool, true, false}
use Prim.Native.Nat.{ℕ, ◌-◌, min}
use native.Mathlib.Omega.{arith}
use borrow.Author.Tests.{lt-ltb, le-ltb}
use lib.Dec.{eqb, ltb}
use Rattle.laws.specs.Choice.{pick}
use Rattle.laws.proofs.Choice.{taken, left, either}
use Rattle.binary_office.specs.Walk.{never_encrypted, clear_len}
use Rattle.survey.proofs.Records.{clear_within}
use Rattle.survey.proofs.enciphered_len.Goals as goal

-- the smaller of two numbers

smaller : (len most : ℕ) → pick (ltb len most) len most ≡ min most len
smaller len most =
    either most len
    (λ h. left len most (le-ltb len most h) ∙ (omega arith))
    (λ h. taken len most (lt-ltb len most h) ∙ (omega arith))

-- of no bytes there are none
of_none : (t : Bool) (len : ℕ) → min (pick t 4 0) len ≡ pick t (min 4 len) 0
unfolding pick
of_none true len = refl
of_none false len = omega arith

-- the clear part by the three tests
by_tests : (id len most few clear : ℕ) → most ≡ pick (eqb id 0x0085) 4 0 → few ≡ pick (ltb len most) len most → clear ≡ pick (never_encrypted id) len few
    → clear ≡ clear_len id len
unfolding clear_len
by_tests id len most few clear e f g = g ∙ ap (pick (never_encrypted id) len) (f ∙ smaller len most ∙ rw e (of_none (eqb id 0x0085) len))

pub overflow_sub-result : goal.overflow_sub-result
overflow_sub-result c =
    let clear_is : c.one_of.result ≡ clear_len c.args.id c.args.len =
    by_tests c.args.id c.args.len _ _ _ c.one_of-most.ensures c.one_of-few.ensures (rw c.never_encrypted.ensures at c.one_of.ensures) in
    rw (clear_is) (clear_within c.args.id c.args.len)

pub returns : goal.returns
returns c =
    let clear_is : c.one_of.result ≡ clear_len c.args.id c.args.len =
    by_tests c.args.id c.args.len _ _ _ c.one_of-most.ensures c.one_of-few.ensures (rw c.never_encrypted.ensures at c.one_of.ensures) in
    ap (λ (n : ℕ). c.args.len - n) (clear_is)
