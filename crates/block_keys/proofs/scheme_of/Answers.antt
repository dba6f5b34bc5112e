-- `block_keys::scheme_of` meets its contract: the version pair picks the family, and each way out is one case of the definition.
-- Assumes nothing.
use Rattle.std.proofs.Common.{arith}
use Rattle.std.proofs.lemmas.Grind.{common_steps}
use Rattle.block_keys.proofs.Schemes.{no_major, no_minor, other_version, version_97, version_api}
use Rattle.block_keys.proofs.scheme_of.Goals as goal

pub returns-in_err-major : goal.returns-in_err-major
returns-in_err-major c = grind (arith, common_steps, no_major c.args.structure.now)

pub returns-in_err-minor : goal.returns-in_err-minor
returns-in_err-minor c = grind (arith, common_steps, no_minor c.args.structure.now)

pub returns-then-major-minor : goal.returns-then-major-minor
returns-then-major-minor c = grind (arith, common_steps, version_97 c.args.structure.now)

pub returns-then-major-minor-2 : goal.returns-then-major-minor-2
returns-then-major-minor-2 c = grind (arith, common_steps, version_api c.args.structure.now)

pub returns : goal.returns
returns c = grind (arith, common_steps, other_version c.args.structure.now)
