-- `rc4_office97::block_key` meets its contract: the key is the whole digest of the five bytes and the number's four.
-- Assumes nothing.
use mathlib.Core.Path.{◌≡◌, refl, ap, ◌∙◌}
use mathlib.Core.List.{List, ◌++◌, append-nil}
use Prim.Native.Nat.{ℕ}
use Rattle.word.specs.Word.{le_bytes}
use Rattle.md_5.specs.Md5.{md5}
use Rattle.sensitive.specs.Derived.{derived}
use Rattle.rc4_office97.specs.Keys.{block_key}
use Rattle.rc4_office97.proofs.Laws.{key_is, key_sixteen}
use Rattle.rc4_office97.proofs.block_key.Goals as goal

whole : (hash : List ℕ) (block : ℕ) (bytes : List ℕ) → bytes ≡ md5 (hash ++ le_bytes block) → record { bytes = bytes; len = 16 } ≡ derived (block_key hash block)
whole hash block bytes e = rw (key_sixteen hash block, append-nil (block_key hash block), key_is hash block, e)

pub returns : goal.returns
returns c = whole c.args.truncated_h1 c.args.block c.digest-bytes.result
    (c.digest-bytes.ensures ∙ ap md5 (c.joined-m.ensures.whole refl ∙ ap (λ (b : List ℕ). c.args.truncated_h1 ++ b) c.to_le_bytes.ensures))
