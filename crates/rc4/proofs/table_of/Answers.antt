-- `rc4::table_of` meets its contract: the table is filled with 0 to 255, and after i turns more it and the locals are the mixing after the first i values.
-- Assumes nothing.
use Rattle.std.proofs.Common.{◌≡◌, ◌+◌, ◌%◌, ℕ, length, get_or, refl, ap, ◌∙◌, arith, lit<}
use Rattle.std.proofs.Math.Nat.{mod-lt}
use Rattle.std.proofs.Math.ListN.{length-set}
use Rattle.laws.specs.Offsets.{tabulate}
use Rattle.laws.proofs.Offsets.{tabulate_store}
use Rattle.rc4.proofs.Carried.{carried_is_remainder, carried_more}
use Rattle.rc4.proofs.Steps.{index_within, mixed_start}
use Rattle.rc4.proofs.Table.{filled, mixing_more}
use Rattle.rc4.proofs.table_of.Goals as goal

pub loop-i-init : goal.loop-i-init
unfolding tabulate
loop-i-init c = (refl, refl)

pub loop-i-preserved : goal.loop-i-preserved
loop-i-preserved c = (simp length-set c.loop-i.invariant.0, tabulate_store (λ (n : ℕ). n) c.loop-i.entry-items c.loop-i.i _ (omega arith) c.loop-i.invariant.1 refl)

pub loop-i-2-init : goal.loop-i-2-init
loop-i-2-init c = (c.loop-i.invariant.0, mixed_start _ _ c.requires (filled c.loop-i.i c.loop-i.entry-items (omega arith) c.loop-i.invariant.0 c.loop-i.invariant.1))

pub bounds-key-index : goal.bounds-key-index
bounds-key-index c = index_within c.loop-i-2.invariant.1

pub following_index-index-requires : goal.following_index-index-requires
following_index-index-requires c = index_within c.loop-i-2.invariant.1

pub loop-i-2-preserved : goal.loop-i-2-preserved
loop-i-2-preserved c = let key = c.args.key.now in
    let t = c.loop-i-2.table in
    let i = c.loop-i-2.i in
    let m = c.loop-i-2.invariant.1 in
    let reduced : c.loop-i-2.index ≡ i % length key = m.index ∙ carried_is_remainder (length key) i m.some in
    let b = get_or key c.loop-i-2.index 0 in
    let byte : b ≡ get_or key (i % length key) 0 = ap (λ (n : ℕ). get_or key n 0) reduced in
    let j = ((c.loop-i-2.j + get_or t i 0) % 256 + b) % 256 in
    let g : j ≡ (c.loop-i-2.j + get_or t i 0 + get_or key (i % length key) 0) % 256 = omega arith in (
      simp length-set c.loop-i-2.invariant.0,
      record {
        some = m.some;
        small = mod-lt _ (lit< tt);
        index = c.following_index-index.ensures ∙ carried_more (length key) i c.loop-i-2.index m.index;
        entry = refl;
        mixed = mixing_more key t i c.loop-i-2.j j m.mixed g;
      },
    )
