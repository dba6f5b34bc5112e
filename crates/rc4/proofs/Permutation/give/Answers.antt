-- `rc4::Permutation::give` meets its contract: after k turns the entries and the local are the keystream after k bytes, and the first k bytes are written.
-- Assumes nothing.
use Rattle.std.proofs.Common.{refl, arith}
use Rattle.laws.proofs.Written.{written_none, written_more}
use Rattle.rc4.specs.declared.Keystream.{Keystream}
use Rattle.rc4.specs.Rc4.{byte_from}
use Rattle.rc4.proofs.Steps.{stepped_none, stepped_more, stepped_byte}
use Rattle.rc4.proofs.Permutation.give.Goals as goal

pub loop-k-init : goal.loop-k-init
loop-k-init c = (refl, stepped_none _ _ c.ready-at.ensures, written_none _ 0 _)

pub step-at-requires : goal.step-at-requires
step-at-requires c = (omega arith, c.loop-k.invariant.1.small, rw c.loop-k.invariant.0 c.loop-k.invariant.1.entry)

pub loop-k-preserved : goal.loop-k-preserved
loop-k-preserved c = let a : Keystream = record { table = c.args.self.now.entries; i = 0; j = 0 } in
    let k = c.loop-k.k in
    let x = stepped_byte a k c.loop-k.at _ _ _ c.loop-k.invariant.1 (rw c.loop-k.invariant.0 at c.step-at.ensures) c.loop-k.self.rearranged in (
      omega arith,
      stepped_more a k c.loop-k.at _ _ _ c.loop-k.invariant.1 (rw c.loop-k.invariant.0 at c.step-at.ensures),
      written_more (byte_from a) 0 k c.args.dst.now c.loop-k.dst _ (omega arith) (omega arith) x c.loop-k.invariant.2,
    )
