-- `sensitive::ansi_password` meets its contract: the loop's invariant is that the characters that the iterator has given are at most 15 and narrow, and that
-- they stand in front of zeros. A wide character, or one past the fifteenth, settles that there is no password, whatever follows.
-- Assumes nothing.
use Prim.Native.Nat.{ℕ, suc, ◌-◌, ◌≤◌, ◌<◌}
use mathlib.Core.Path.{◌≡◌, refl, sym, ap, ◌∙◌}
use mathlib.Core.Bool.{Bool, true, false, ◌&&◌, and_assoc, and-false}
use mathlib.Core.List.{List, [], ◌∷◌, ◌++◌}
use native.Mathlib.Omega.{arith}
use borrow.Author.Tests.{le-leb, lt-leb}
use lib.Dec.{leb}
use lib.ListN.{length, set, replicate, length-append}
use lib.Seq.{set_at, append_snoc, take_at}
use Rattle.std.specs.Prelude.{Some, None}
use Rattle.laws.specs.Choice.{pick, within}
use Rattle.laws.proofs.Choice.{taken, left, within_yes, within_low, within_high}
use Rattle.sensitive.specs.Utf8.{points}
use Rattle.sensitive.specs.Ansi.{narrow, ansi}
use Rattle.sensitive.specs.declared.Chars.{Chars}
use Rattle.sensitive.proofs.Texts.{passed_all}
use Rattle.sensitive.proofs.Given.{Given, from_ok, given_none, given_more, given_all, given_bad}
use Rattle.sensitive.proofs.ansi_password.Goals as goal

narrow_append : (ps qs : List ℕ) → narrow (ps ++ qs) ≡ (narrow ps && narrow qs)
narrow_append [] qs = refl
narrow_append (p ∷ ps) qs = ap (λ (t : Bool). leb p 0xFF && t) (narrow_append ps qs) ∙ sym (and_assoc (leb p 0xFF) (narrow ps) (narrow qs))

narrow_more : (ps : List ℕ) (p : ℕ) → narrow ps ≡ true → p ≤ 0xFF → narrow (ps ++ (p ∷ [])) ≡ true
narrow_more ps p e h = rw (narrow_append ps (p ∷ []), e, le-leb p 0xFF h)

wide : (ps qs : List ℕ) (p : ℕ) → 0xFF < p → narrow (ps ++ (p ∷ []) ++ qs) ≡ false
wide ps qs p h = rw (narrow_append (ps ++ (p ∷ [])) qs, narrow_append ps (p ∷ []), lt-leb p 0xFF h, and-false (narrow ps))

-- one byte more
stored : (ps : List ℕ) (n p : ℕ) → n ≡ length ps → n < 15 → set (ps ++ replicate (16 - length ps) 0) n p ≡ ps ++ (p ∷ []) ++ replicate (16 - length (ps ++ (p ∷ []))) 0
stored ps n p e h =
    let f : 16 - length ps ≡ suc (15 - length ps) = omega arith in
    let g : 16 - length (ps ++ (p ∷ [])) ≡ 15 - length ps = rw length-append (omega arith) in
    rw (f, g) (set_at ps 0 (replicate (15 - length ps) 0) p n (sym e) ∙ sym (append_snoc ps p (replicate (15 - length ps) 0)))

module _ (s : List ℕ) where
  bad : points s ≡ None → ansi s ≡ None
  unfolding ansi
  bad e = rw (e, ansi)

  good : (ps : List ℕ) → points s ≡ Some ps → ansi s ≡ pick (within 1 15 (length ps) && narrow ps) (Some ps) None
  unfolding ansi
  good ps e = rw (e, ansi)

  -- the characters given show already that there is no password
  refused : {it : Chars} {ps : List ℕ} → Given s it ps → ((qs : List ℕ) → (within 1 15 (length (ps ++ qs)) && narrow (ps ++ qs)) ≡ false) → ansi s ≡ None
  refused {ps = ps} w f = passed_all s w.passed bad (λ qs e. good (ps ++ qs) e ∙ left _ _ (f qs))

  empty : (ps : List ℕ) → length ps ≡ 0 → points s ≡ Some ps → ansi s ≡ None
  empty ps h e = good ps e ∙ left _ _ (rw (within_low 1 15 (length ps) (omega arith)))

  finished : (ps : List ℕ) → 1 ≤ length ps → length ps ≤ 15 → narrow ps ≡ true → points s ≡ Some ps → ansi s ≡ Some ps
  finished ps g h e f = good ps f ∙ taken _ _ (rw (within_yes 1 15 (length ps) g h) e)

pub loop-point-init : goal.loop-point-init
loop-point-init c = record {
  ps = [];
  given = rw c.into_iter-point-iterator.ensures.into_iter_gives (given_none c.new-point-items.ensures.text c.new-point-items.ensures.at);
  count = refl;
  few = omega arith;
  low = refl;
  stored = refl;
}

pub returns-in_err-point : goal.returns-in_err-point
returns-in_err-point c = rw (c.from_residual.ensures, bad _ (given_bad c.loop-point.invariant.given c.next.ensures.steps _ c.in-Some.is c.in_err-point.ensures.value))

pub returns-then-point-gt255 : goal.returns-then-point-gt255
returns-then-point-gt255 c =
    let w = c.loop-point.invariant in
    let g = given_more w.given _ c.next.ensures.steps (c.in-Some.is ∙ ap Some (from_ok _ _ c.in_ok-point.ensures.value)) in
    rw (refused _ g (λ qs. rw (wide w.ps qs c.in_ok-point.point (omega arith), and-false)))

pub returns-then-len-ge-XOR_PASSWORD_MAX_LEN : goal.returns-then-len-ge-XOR_PASSWORD_MAX_LEN
returns-then-len-ge-XOR_PASSWORD_MAX_LEN c =
    let w = c.loop-point.invariant in
    let g = given_more w.given _ c.next.ensures.steps (c.in-Some.is ∙ ap Some (from_ok _ _ c.in_ok-point.ensures.value)) in
    rw (refused _ g (λ qs. rw (within_high 1 15 (length (w.ps ++ (c.in_ok-point.point ∷ []) ++ qs)) (rw (length-append, length-append) (omega arith)))))

pub loop-point-preserved : goal.loop-point-preserved
loop-point-preserved c =
    let w = c.loop-point.invariant in
    record {
      ps = w.ps ++ (c.in_ok-point.point ∷ []);
      given = given_more w.given _ c.next.ensures.steps (c.in-Some.is ∙ ap Some (from_ok _ _ c.in_ok-point.ensures.value));
      count = rw length-append (omega arith);
      few = omega arith;
      low = narrow_more w.ps c.in_ok-point.point w.low (omega arith);
      stored = rw w.stored (stored w.ps c.loop-point.len c.in_ok-point.point w.count (omega arith));
    }

pub returns-then-len-eq0 : goal.returns-then-len-eq0
returns-then-len-eq0 c =
    let w = c.loop-point.invariant in
    rw (empty _ w.ps (omega arith) (given_all w.given c.next.ensures.steps c.in-None.is))

pub returns : goal.returns
returns c =
    let w = c.loop-point.invariant in
    rw (finished _ w.ps (omega arith) (omega arith) w.low (given_all w.given c.next.ensures.steps c.in-None.is))
    (ap Some (rw w.stored (take_at w.ps _ _ (sym w.count))))
