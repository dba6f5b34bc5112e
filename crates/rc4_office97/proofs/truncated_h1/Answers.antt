-- `rc4_office97::truncated_h1` meets its contract: the bytes written out are the first five of the digest.
-- Assumes nothing.
use mathlib.Core.Path.{◌≡◌, ap, ◌∙◌}
use native.Mathlib.Omega.{arith}
use lib.ListN.{length, take}
use Rattle.laws.specs.Offsets.{tabulate}
use Rattle.md_5.specs.Md5.{md5}
use Rattle.rc4_office97.specs.Keys.{times, truncated}
use Rattle.laws.proofs.Offsets.{heads}
use Rattle.rc4_office97.proofs.Laws.{length_md5}
use Rattle.rc4_office97.proofs.truncated_h1.Goals as goal

pub returns : goal.returns
unfolding tabulate truncated
returns c = let n : length c.digest-h.result ≡ 16 = ap length c.digest-h.ensures ∙ length_md5 c.repeated-m.result in
    heads c.digest-h.result 5 (omega arith)
    ∙ ap (take 5) (c.digest-h.ensures ∙ ap md5 (c.repeated-m.ensures ∙ ap (times 16) c.unit.ensures))
