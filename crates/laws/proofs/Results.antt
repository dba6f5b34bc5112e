-- What `ok_or`, `?` and `option_map` tell of the value that they were given.
-- Assumes nothing.
use Rattle.std.specs.Prelude.{Option, None, Some, Ok, Err}
use Rattle.std.specs.Option.{ok_or, option_map}
use Rattle.std.proofs.lemmas.Option.{none-some, same_Some}
use mathlib.Core.Bool.{Bool, true, false}
use Rattle.laws.specs.Choice.{pick}
use mathlib.Core.Path.{◌≡◌, refl, sym}

module _ {A E : Type 0} where
  pub ok_or_ok : (o : Option A) (e : E) (x : A) → ok_or o e ≡ Ok x → Some x ≡ o
  ok_or_ok None e x h = cc
  ok_or_ok (Some y) e x h = cc

  pub ok_or_err : (o : Option A) (e y : E) → ok_or o e ≡ Err y → None ≡ o
  ok_or_err None e y h = refl
  ok_or_err (Some x) e y h = cc

-- what is made of a value is made of one that is there
pub made_of : {A B : Type 0} (f : A → B) (o : Option A) (y : B) → option_map f o ≡ Some y → (x : A) × (o ≡ Some x) × (f x ≡ y)
made_of f None y e = absurd (none-some y e)
made_of f (Some x) y e = (x, refl, same_Some (f x) y e)

pub none_of : {A B : Type 0} (f : A → B) (o : Option A) → None ≡ option_map f o → o ≡ None
none_of f None e = refl
none_of f (Some x) e = absurd (none-some (f x) e)

-- a value that a test gives or not
module _ {A : Type 0} (t : Bool) (a : A) where
  pub test_none : None ≡ pick t (Some a) None → t ≡ false
  unfolding pick
  test_none e = go t e
    where
      go : (t : Bool) → None ≡ pick t (Some a) None → t ≡ false
      go true e = absurd (none-some a e)
      go false e = refl

  pub test_some : (x : A) → Some x ≡ pick t (Some a) None → (t ≡ true) × (x ≡ a)
  unfolding pick
  test_some x e = go t e
    where
      go : (t : Bool) → Some x ≡ pick t (Some a) None → (t ≡ true) × (x ≡ a)
      go true e = (refl, same_Some x a e)
      go false e = absurd (none-some x (sym e))
