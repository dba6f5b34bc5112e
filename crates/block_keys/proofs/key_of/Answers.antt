-- `block_keys::key_of` meets its contract: the key takes a block's number by its four low bytes.
-- Assumes nothing.
use mathlib.Core.Path.{◌∙◌, ap}
use Rattle.sensitive.specs.Derived.{derived}
use Rattle.block_keys.proofs.Blocks.{block_number}
use Rattle.block_keys.proofs.key_of.Goals as goal

pub returns : goal.returns
returns c = c.block_key.ensures ∙ ap derived (block_number c.args.schedule c.args.block)
