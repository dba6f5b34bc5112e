-- `block_keys::keystream` meets its contract: a block's key has a length that a keystream is made from.
-- Assumes nothing.
use mathlib.Core.Path.{◌∙◌}
use Rattle.std.proofs.Common.{arith}
use Rattle.std.proofs.lemmas.Grind.{common_steps}
use Rattle.block_keys.proofs.Answers.{slice_is, stream_made}
use Rattle.block_keys.proofs.keystream.Goals as goal

pub unwrap-requires : goal.unwrap-requires
unwrap-requires c =
    let key = c.as_slice.ensures ∙ slice_is c.args.schedule c.args.block _ c.block_key-key.ensures in
    let there = c.new.ensures ∙ stream_made c.args.schedule c.args.block _ key in
    grind (arith, common_steps, there)

pub returns : goal.returns
returns c =
    let key = c.as_slice.ensures ∙ slice_is c.args.schedule c.args.block _ c.block_key-key.ensures in
    let there = c.new.ensures ∙ stream_made c.args.schedule c.args.block _ key in
    grind (arith, common_steps, there)
