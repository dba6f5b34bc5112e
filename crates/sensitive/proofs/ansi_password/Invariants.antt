-- `sensitive::ansi_password` meets its contract: the loop's invariant is that the characters that the iterator has given are at most 15 and narrow, and that
-- they stand in front of zeros. A wide character, or one past the fifteenth, settles that there is no password, whatever follows.
-- Assumes nothing.
use Prim.Native.Nat.{ℕ, ◌-◌, ◌≤◌}
use mathlib.Core.Path.{◌≡◌}
use mathlib.Core.Bool.{true}
use mathlib.Core.List.{List, ◌++◌}
use lib.ListN.{length, replicate}
use Rattle.sensitive.specs.Ansi.{narrow}
use Rattle.sensitive.specs.declared.Chars.{Chars}
use Rattle.sensitive.proofs.Given.{Given}
use Rattle.sensitive.proofs.ansi_password.Given as goal

pub record Held (s : List ℕ) (it : Chars) (len : ℕ) (bytes : List ℕ) : Type 0 where
  pub ps : List ℕ
  pub given : Given s it ps
  pub count : len ≡ length ps
  pub few : len ≤ 15
  pub low : narrow ps ≡ true
  pub stored : bytes ≡ ps ++ replicate (16 - length ps) 0

abbrev pub invariant-loop-point : goal.invariant-loop-point
invariant-loop-point l = Held l.text l.point-iterator l.len l.bytes
