-- `survey::find_lock` meets its contract: each way out is one question, and a structure of type 1 is read by its own table.
-- Assumes nothing.
use mathlib.Core.Path.{◌≡◌, sym, ap, ◌∙◌}
use Prim.Native.Nat.{ℕ, ◌-◌, ◌≤◌}
use native.Mathlib.Nat.{le_of_eq}
use mathlib.Core.List.{List}
use lib.ListN.{length, take, drop, length-drop}
use lib.Seq.{take_all}
use Rattle.std.proofs.Common.{arith}
use Rattle.std.proofs.lemmas.Grind.{common_steps}
use Rattle.laws.proofs.Results.{ok_or_ok}
use Rattle.binary_office.proofs.Headers.{le16_within}
use Rattle.block_keys.specs.Lock.{scheme_of}
use Rattle.survey.proofs.Locked.{no_type, xor_cut, xor_lock, other_type, rc4_refused, rc4_locked}
use Rattle.survey.proofs.find_lock.Goals as goal

-- a part up to the end
behind : (xs : List ℕ) (n : ℕ) → take (length xs - n) (drop n xs) ≡ drop n xs
behind xs n = take_all (length xs - n) (drop n xs) (le_of_eq (length-drop n xs))

one : (t : ℕ) → (t ≡ 0 → ⊥) → t ≤ 1 → t ≡ 1
one t h k = omega arith

pub returns-in_err-kind : goal.returns-in_err-kind
returns-in_err-kind c = grind (arith, common_steps, no_type)

pub overflow_sub-result : goal.overflow_sub-result
overflow_sub-result c = let kind = ok_or_ok _ _ _ (sym c.ok_or.ensures.value ∙ c.in_ok-kind.was) ∙ c.le16.ensures in
    le16_within c.args.body.now 0 _ kind

pub returns-then-have-lt6 : goal.returns-then-have-lt6
returns-then-have-lt6 c = grind (arith, common_steps, xor_cut)

pub returns-then-kind-eq0 : goal.returns-then-kind-eq0
returns-then-kind-eq0 c = grind (arith, common_steps, xor_lock)

pub returns-then-kind-gt1 : goal.returns-then-kind-gt1
returns-then-kind-gt1 c = let kind = ok_or_ok _ _ _ (sym c.ok_or.ensures.value ∙ c.in_ok-kind.was) ∙ c.le16.ensures in
    other_type c.args.body.now _ kind c.if-kind-gt1.true

pub slice_bounds-scheme_of-count : goal.slice_bounds-scheme_of-count
slice_bounds-scheme_of-count c = let kind = ok_or_ok _ _ _ (sym c.ok_or.ensures.value ∙ c.in_ok-kind.was) ∙ c.le16.ensures in
    le16_within c.args.body.now 0 _ kind

pub slice_bounds-scheme_of-start : goal.slice_bounds-scheme_of-start
slice_bounds-scheme_of-start c = let kind = ok_or_ok _ _ _ (sym c.ok_or.ensures.value ∙ c.in_ok-kind.was) ∙ c.le16.ensures in
    le16_within c.args.body.now 0 _ kind

pub returns-in_err-scheme_of : goal.returns-in_err-scheme_of
unfolding scheme_of
returns-in_err-scheme_of c =
    let kind = ok_or_ok _ _ _ (sym c.ok_or.ensures.value ∙ c.in_ok-kind.was) ∙ c.le16.ensures in
    let read = sym (c.scheme_of.ensures ∙ ap scheme_of (behind c.args.body.now 2)) ∙ c.in_err-scheme_of.was in
    let refused = rc4_refused c.args.body.now _ kind (one _ c.if-kind-eq0.false c.if-kind-gt1.false) _ read in
    grind (arith, common_steps, refused)

pub returns : goal.returns
unfolding scheme_of
returns c =
    let kind = ok_or_ok _ _ _ (sym c.ok_or.ensures.value ∙ c.in_ok-kind.was) ∙ c.le16.ensures in
    let read = sym (c.scheme_of.ensures ∙ ap scheme_of (behind c.args.body.now 2)) ∙ c.in_ok-scheme_of.was in
    rc4_locked c.args.body.now _ kind (one _ c.if-kind-eq0.false c.if-kind-gt1.false) _ read
