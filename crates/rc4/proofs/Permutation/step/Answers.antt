-- `rc4::Permutation::step` meets its contract: the two stores are the swap, and the entry that was loaded ahead of them is the one that is there after them.
-- Assumes nothing.
use Rattle.std.proofs.Common.{◌+◌, ◌%◌, ◌<◌, length, get_or, refl, arith, lit<}
use Rattle.std.proofs.Math.Nat.{mod-lt}
use Rattle.rc4.specs.Rc4.{swap}
use Rattle.rc4.proofs.Rearranged.{swap_rearranged, rearranged_length}
use Rattle.rc4.proofs.Table.{loaded_early}
use Rattle.rc4.proofs.Permutation.step.Goals as goal

pub invariant_of-self : goal.invariant_of-self
unfolding swap
invariant_of-self c = let t = c.args.self.now in
    record { rearranged = rw c.requires.2 (swap_rearranged t.entries c.args.i ((c.args.at.j + get_or t.entries c.args.i 0) % 256) c.requires.0 (mod-lt _ (lit< tt)) t.rearranged) }

pub returns : goal.returns
unfolding swap
returns c = let t = c.args.self.now in
    let j = (c.args.at.j + c.args.at.entry) % 256 in
    let within : j < length t.entries = rw (rearranged_length _ t.rearranged) (mod-lt _ (lit< tt)) in
    record {
      j = rw c.requires.2 refl;
      table = rw c.requires.2 refl;
      entry = loaded_early t.entries c.args.i j ((c.args.i + 1) % 256) c.args.at.entry _ c.requires.2 within (λ e. omega arith) c.after_swap-entry.ensures;
      byte = rw c.requires.2 refl;
    }
