-- `word::joined` meets its contract: each copy is what there is room for of its array, and what is left are zeros.
-- Assumes nothing.
use Rattle.std.proofs.Common.{◌≡◌, replicate, take, drop, rules}
use Rattle.word.proofs.Filled.{filled}
use Rattle.word.proofs.joined.Goals as goal

pub returns-clause-value : goal.returns-clause-value
returns-clause-value g c = let k = c.min.result in
    let m = c.min-2.result in
    let first : c.copy_from_slice.new.self ≡ take k c.args.a.now = search rules in
    let second : c.copy_from_slice-2.new.self ≡ take m c.args.b.now = search rules in
    let last : c.split_at_mut-middle.result.1.now ≡ drop m (drop k (replicate g.row.N 0)) = search rules in
    rw (first, second, last) (filled c.args.a.now c.args.b.now g.row.N k m (search rules) (search rules))
