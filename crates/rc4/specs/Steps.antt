-- What the private functions of the key mixing and of the keystream promise each other. No public promise rests on it.
-- Assumes nothing.
use Rattle.std.specs.Prelude.{◌≡◌, List, ℕ, ◌+◌, ◌-◌, ◌%◌, ◌≤◌, ◌<◌, ltb, length, get_or}
use Rattle.laws.specs.Choice.{pick}
use Rattle.rc4.specs.declared.Keystream.{Keystream}
use Rattle.rc4.specs.declared.Mixed.{Mixed}
use Rattle.rc4.specs.declared.Stepped.{Stepped}
use Rattle.rc4.specs.KeyIndex.{carried_index}
use Rattle.rc4.specs.Rc4.{swap, mixing, byte_from}

-- a key's mixing after the first n values of i, with the key index and the entry at the next i carried along
pub record MixedTo (key : List ℕ) (n : ℕ) (at : Mixed) (t : List ℕ) : Type 0 where
  pub some : 1 ≤ length key
  pub small : at.j < 256
  pub index : at.index ≡ carried_index (length key) n
  pub entry : at.entry ≡ get_or t (n % 256) 0
  pub mixed : record { table = t; j = at.j } ≡ mixing key n

-- a step of a keystream at i, and the entry at the i that follows
pub record StepsTo (t : List ℕ) (i : ℕ) (at r : Stepped) (t' : List ℕ) : Type 0 where
  pub j : r.j ≡ (at.j + get_or t i 0) % 256
  pub table : t' ≡ swap t i r.j
  pub entry : r.entry ≡ get_or t' ((i + 1) % 256) 0
  pub byte : r.byte ≡ get_or t' ((get_or t i 0 + get_or t r.j 0) % 256) 0 % 256

-- the byte of the first keystream in the first half, of h bytes, and of the second in the second
abbrev pub given_halves : Keystream → Keystream → ℕ → ℕ → ℕ
given_halves a b h n = pick (ltb n h) (byte_from a n) (byte_from b (n - h))
