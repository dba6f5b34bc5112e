-- The key of one block of RC4, as the code holds it: up to 16 bytes, with zeros behind them.
-- Assumes nothing.
use Rattle.std.specs.Prelude.{ℕ, ◌-◌, List, ◌++◌, length, replicate}
use Rattle.sensitive.specs.declared.DerivedKey.{DerivedKey}

abbrev pub derived : List ℕ → DerivedKey
derived key = record { bytes = key ++ replicate (16 - length key) 0; len = length key }
