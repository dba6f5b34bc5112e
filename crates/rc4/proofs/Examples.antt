-- The definition computes RFC 6229's keystream: the first four bytes for the key 01 02 03 04 05.
-- Assumes nothing.
use mathlib.Core.Path.{◌≡◌, refl}
use mathlib.Core.List.{[], ◌∷◌}
use Rattle.laws.specs.Offsets.{tabulate}
use Rattle.rc4.specs.Rc4.{keyed, byte_from, keystream_byte}

pub first_four : tabulate (keystream_byte (1 ∷ 2 ∷ 3 ∷ 4 ∷ 5 ∷ [])) 4 ≡ 0xb2 ∷ 0x39 ∷ 0x63 ∷ 0x05 ∷ []
unfolding keyed byte_from tabulate
first_four = refl
