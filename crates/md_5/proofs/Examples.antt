-- The definition computes two of RFC 1321's examples (A.5): the message "abc", and the empty one.
-- Assumes nothing.
use mathlib.Core.Path.{◌≡◌, refl}
use mathlib.Core.List.{[], ◌∷◌}
use Rattle.laws.specs.Choice.{pick}
use Rattle.laws.specs.Offsets.{tabulate}
use Rattle.word.specs.Word.{rotl, le32}
use Rattle.padding.specs.Padding.{hash_end, le64}
use Rattle.md_5.specs.Md5.{md5}

pub abc :
    md5 (0x61 ∷ 0x62 ∷ 0x63 ∷ [])
    ≡ 0x90 ∷ 0x01 ∷ 0x50 ∷ 0x98 ∷ 0x3c ∷ 0xd2 ∷ 0x4f ∷ 0xb0 ∷ 0xd6 ∷ 0x96 ∷ 0x3f ∷ 0x7d ∷ 0x28 ∷ 0xe1 ∷ 0x7f ∷ 0x72 ∷ []
unfolding md5 hash_end le64 le32 rotl pick tabulate
abc = refl

pub empty :
    md5 []
    ≡ 0xd4 ∷ 0x1d ∷ 0x8c ∷ 0xd9 ∷ 0x8f ∷ 0x00 ∷ 0xb2 ∷ 0x04 ∷ 0xe9 ∷ 0x80 ∷ 0x09 ∷ 0x98 ∷ 0xec ∷ 0xf8 ∷ 0x42 ∷ 0x7e ∷ []
unfolding md5 hash_end le64 le32 rotl pick tabulate
empty = refl
