-- What the private function of the forecast answers. Nothing that is promised outside rests on this file.
-- Assumes nothing.
use Rattle.std.specs.Prelude.{ℕ, ◌+◌}
use Rattle.block_keys.specs.BlockKeys.{started_blocks}
use Rattle.survey.specs.declared.Scheme.{Scheme}
use Rattle.survey.specs.declared.Scheme.TheVariants as scheme

-- the block keys of a lock that was read
abbrev pub keys_of : Scheme → (bytes : ℕ) → ℕ
keys_of scheme.Xor bytes = 0
keys_of (scheme.Rc4 l) bytes = 1 + started_blocks 1024 bytes
