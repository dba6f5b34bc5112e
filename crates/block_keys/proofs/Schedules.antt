-- Where scratch and password allow one, the schedule is that of the family, the key size, the salt and the password, and the scratch's first 64 bytes end zero.
-- Assumes nothing.
use Rattle.std.specs.Prelude.{Option, Some, None}
use Rattle.std.proofs.lemmas.Option.{none-some, same_Some}
use mathlib.Core.Path.{◌≡◌, refl, sym, ap, ◌∙◌}
use mathlib.Core.Bool.{Bool, true, false}
use mathlib.Core.List.{List, ◌++◌}
use Prim.Native.Nat.{ℕ, ◌≤◌}
use lib.ListN.{length, drop, replicate}
use borrow.Author.Tests.{le-leb}
use Rattle.laws.specs.Choice.{pick}
use Rattle.laws.proofs.Choice.{taken}
use Rattle.sensitive.specs.Utf8.{well_formed}
use Rattle.password_digest.specs.Digest.{fits, Digests}
use Rattle.block_keys.specs.declared.Kind.{Kind}
use Rattle.block_keys.specs.declared.Schedule.{Schedule}
use Rattle.block_keys.specs.BlockKeys.{schedule_of}
use Rattle.block_keys.specs.Lock.{Schedules}

-- what is made of a value that is there by a test, and nothing of none
module _ {A B : Type 0} where
  pub made_of_none : (t : Bool) (a : A) (b : B) → None ≡ pick t (Some a) None → None ≡ pick t (Some b) None
  unfolding pick
  made_of_none true a b e = absurd (none-some a e)
  made_of_none false a b e = refl

  pub made_of_some : (t : Bool) (a x : A) (f : A → B) → Some x ≡ pick t (Some a) None → Some (f x) ≡ pick t (Some (f a)) None
  unfolding pick
  made_of_some true a x f e = ap (λ (y : A). Some (f y)) (same_Some x a e)
  made_of_some false a x f e = absurd (none-some x (sym e))

-- a schedule of the digest that is there, and none of none
module _ {p w w' d : List ℕ} (k : Kind) (bits : ℕ) (salt : List ℕ) where
  pub no_schedule : Digests d p w None w' → Schedules k bits salt p w None w'
  no_schedule h = record { scheduled = made_of_none _ _ _ h.digested; wiped = h.wiped }

  pub schedule_made_of : (x : List ℕ) (make : List ℕ → Schedule) → schedule_of k bits salt p ≡ make d → Digests d p w (Some x) w'
      → Schedules k bits salt p w (Some (make x)) w'
  schedule_made_of x make e h = record { scheduled = rw e (made_of_some _ _ _ make h.digested); wiped = h.wiped }

module _ (k : Kind) (bits : ℕ) (salt p w w' : List ℕ) (r : Option Schedule) (m : Schedules k bits salt p w r w') (h : 64 ≤ length w) (u : well_formed p ≡ true) where
  fitting : fits p w ≡ true
  fitting = rw (le-leb 64 (length w) h, u)

  pub made : r ≡ Some (schedule_of k bits salt p)
  made = m.scheduled ∙ taken _ _ fitting

  pub left_zero : w' ≡ replicate 64 0 ++ drop 64 w
  left_zero = m.wiped ∙ taken (replicate 64 0 ++ drop 64 w) w (le-leb 64 (length w) h)
