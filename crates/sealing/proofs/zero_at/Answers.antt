-- `sealing::zero_at` meets its contract: the record is a zero record where its id and all bytes of its body are zero.
-- Assumes nothing.
use mathlib.Core.Path.{◌≡◌, refl, ap, ◌∙◌}
use mathlib.Core.Bool.{Bool, ◌&&◌}
use mathlib.Core.List.{List, [], ◌∷◌}
use Prim.Native.Nat.{ℕ, ◌+◌, ◌-◌}
use lib.Dec.{eqb}
use lib.ListN.{take, drop}
use Rattle.std.specs.List.{list_all}
use Rattle.std.proofs.Common.{arith}
use Rattle.std.proofs.lemmas.Grind.{common_steps}
use Rattle.laws.specs.Choice.{pick}
use Rattle.binary_office.specs.Walk.{all_zero}
use Rattle.sealing.proofs.zero_at.Goals as goal

-- the definition, as the code asks it
all_zero_list : (bs : List ℕ) → list_all (λ b. eqb b 0) bs ≡ all_zero bs
all_zero_list [] = refl
all_zero_list (b ∷ bs) = ap (λ (t : Bool). eqb b 0 && t) (all_zero_list bs)

-- the bytes between a body's start and its end are its bytes
body_asked : (s : List ℕ) (start len : ℕ) → list_all (λ b. eqb b 0) (take (start + len - start) (drop start s)) ≡ all_zero (take len (drop start s))
body_asked s start len =
    let n : start + len - start ≡ len = omega arith in
    ap (λ (k : ℕ). list_all (λ b. eqb b 0) (take k (drop start s))) n ∙ all_zero_list (take len (drop start s))

pub returns-then-all_zero : goal.returns-then-all_zero
unfolding pick
returns-then-all_zero c = let body = body_asked c.args.plain.now (c.args.at.at + 4) c.args.at.len in grind (arith, common_steps, body)

pub returns-else-at-eq0 : goal.returns-else-at-eq0
unfolding pick
returns-else-at-eq0 c = let body = body_asked c.args.plain.now (c.args.at.at + 4) c.args.at.len in grind (arith, common_steps, body)
