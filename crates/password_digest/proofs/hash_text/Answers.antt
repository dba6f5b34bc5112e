-- `password_digest::hash_text` meets its contract: the loop's invariant is that the hash of the whole is that of what is in the block and to come, from the
-- value so far on. The measure goes down with each byte that is taken, and so with each block.
-- Assumes nothing.
use Rattle.std.proofs.Common.{◌≡◌, ◌<◌, ◌++◌, length, take, drop, ap, ◌∙◌, arith, take_at}
use Rattle.padding.specs.Padding.{hash_end}
use Rattle.password_digest.proofs.Filling.{goes_start, hashes_first, hashes_more, hashes_end}
use Rattle.password_digest.proofs.hash_text.Goals as goal

pub loop-f-preserved : goal.loop-f-preserved
loop-f-preserved g c =
    let b = g.H.BlockHash in
    let i = c.loop-f.invariant in (
      c.refill-f.auto.block ∙ i.0,
      λ m w. hashes_more b.after_block b.size_bytes _ _ _ m i.0 c.loop-f-test.true (i.1 m w) c.compress_all-h.ensures c.refill-f.ensures,
    )

pub returns : goal.returns
returns g c = λ e h.
    let b = g.H.BlockHash in
    let before = c.args.before.now in
    let k : c.loop-f.f.n < 64 = omega arith in
    let copied = c.copy_from_slice.new.self in
    let start : take (length before) (copied ++ drop (length before) c.args.block.now) ≡ before =
    take_at copied _ _ (ap length c.copy_from_slice.ensures.after) ∙ c.copy_from_slice.ensures.after in
    let w = hashes_first b.after_block b.size_bytes c.args.total c.args.text.now c.init-h.result (before ++ e) c.fill-f.ensures
    (goes_start c.args.text.now e before _ h start) in
    let from_start = hashes_end b.after_block b.size_bytes _ _ _ _ k (c.loop-f.invariant.1 _ w) in
    c.finish.ensures ∙ ap b.digest_of (from_start ∙ ap (λ v. hash_end b.after_block b.size_bytes v (before ++ e) c.args.total) c.init-h.ensures)
