-- The key of one block as the code holds it: the bytes that count are the key's.
-- Assumes nothing.
use mathlib.Core.Path.{◌≡◌, refl}
use mathlib.Core.List.{List}
use Prim.Native.Nat.{ℕ}
use lib.ListN.{take}
use lib.Seq.{take_at}
use Rattle.sensitive.specs.declared.DerivedKey.{DerivedKey}
use Rattle.sensitive.specs.Derived.{derived}

pub take-derived : (d : DerivedKey) (key : List ℕ) → d ≡ derived key → take d.len d.bytes ≡ key
take-derived d key e = rw e (take_at key _ _ refl)
