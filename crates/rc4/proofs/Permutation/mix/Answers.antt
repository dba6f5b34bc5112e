-- `rc4::Permutation::mix` meets its contract: the key byte at the carried index is document 01's, the two stores are the swap, and the entry that was loaded
-- ahead of them is the one that is there after them.
-- Assumes nothing.
use Rattle.std.proofs.Common.{◌≡◌, ◌+◌, ◌%◌, ◌<◌, ℕ, length, get_or, refl, ap, ◌∙◌, arith, lit<}
use Rattle.std.proofs.Math.Nat.{mod-lt, mod-eq_of_lt}
use Rattle.rc4.specs.Rc4.{swap}
use Rattle.rc4.proofs.Carried.{carried_is_remainder, carried_more}
use Rattle.rc4.proofs.Rearranged.{swap_rearranged, rearranged_length}
use Rattle.rc4.proofs.Steps.{index_within}
use Rattle.rc4.proofs.Table.{mixing_more, loaded_early}
use Rattle.rc4.proofs.Permutation.mix.Goals as goal

pub bounds-key-index : goal.bounds-key-index
bounds-key-index c = index_within c.requires.1

pub following_index-requires : goal.following_index-requires
following_index-requires c = index_within c.requires.1

pub invariant_of-self : goal.invariant_of-self
unfolding swap
invariant_of-self c = let t = c.args.self.now in
    let first : c.args.at.entry ≡ get_or t.entries c.args.i 0 = c.requires.1.entry ∙ ap (λ (n : ℕ). get_or t.entries n 0) (mod-eq_of_lt c.requires.0) in
    record { rearranged = rw first (swap_rearranged t.entries c.args.i ((c.args.at.j + get_or t.entries c.args.i 0 + get_or c.args.key.now c.args.at.index 0) % 256) c.requires.0 (mod-lt _ (lit< tt)) t.rearranged) }

pub returns : goal.returns
returns c = let t = c.args.self.now in
    let n = length c.args.key.now in
    let j = (c.args.at.j + c.args.at.entry + get_or c.args.key.now c.args.at.index 0) % 256 in
    let first : c.args.at.entry ≡ get_or t.entries c.args.i 0 = c.requires.1.entry ∙ ap (λ (n : ℕ). get_or t.entries n 0) (mod-eq_of_lt c.requires.0) in
    let reduced : c.args.at.index ≡ c.args.i % n = c.requires.1.index ∙ carried_is_remainder n c.args.i c.requires.1.some in
    let within : j < length t.entries = rw (rearranged_length _ t.rearranged) (mod-lt _ (lit< tt)) in
    record {
      some = c.requires.1.some;
      small = mod-lt _ (lit< tt);
      index = c.following_index.ensures ∙ carried_more n c.args.i c.args.at.index c.requires.1.index;
      entry = loaded_early t.entries c.args.i j ((c.args.i + 1) % 256) c.args.at.entry _ first within (λ e. omega arith) c.after_swap.ensures;
      mixed = rw first (mixing_more c.args.key.now t.entries c.args.i c.args.at.j ((c.args.at.j + get_or t.entries c.args.i 0 + get_or c.args.key.now c.args.at.index 0) % 256) c.requires.1.mixed (rw reduced refl));
    }
