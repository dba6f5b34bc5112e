-- `rc4::give_both` meets its contract: after k turns the tables and the locals are the two keystreams after k bytes, and the first k bytes of each half are
-- written.
-- Assumes nothing.
use Rattle.std.proofs.Common.{refl, arith}
use Rattle.rc4.specs.declared.Keystream.{Keystream}
use Rattle.rc4.specs.Steps.{given_halves}
use Rattle.rc4.proofs.Halves.{sides_none, sides_more, first_half, second_half}
use Rattle.rc4.proofs.Steps.{stepped_none, stepped_more, stepped_byte}
use Rattle.rc4.proofs.give_both.Goals as goal

pub loop-k-init : goal.loop-k-init
loop-k-init c = (refl, stepped_none _ _ c.ready-first.ensures, stepped_none _ _ c.ready-second.ensures, sides_none _ _ _)

pub step-first-requires : goal.step-first-requires
step-first-requires c = (omega arith, c.loop-k.invariant.1.small, rw c.loop-k.invariant.0 c.loop-k.invariant.1.entry)

pub step-second-requires : goal.step-second-requires
step-second-requires c = (omega arith, c.loop-k.invariant.2.small, rw c.loop-k.invariant.0 c.loop-k.invariant.2.entry)

pub loop-k-preserved : goal.loop-k-preserved
loop-k-preserved c = let a : Keystream = record { table = c.args.s.now.entries; i = 0; j = 0 } in
    let b : Keystream = record { table = c.args.t.now.entries; i = 0; j = 0 } in
    let h = c.args.h in
    let k = c.loop-k.k in
    let x = first_half a b h k _ c.loop-k-test.true (stepped_byte a k c.loop-k.first _ _ _ c.loop-k.invariant.1 (rw c.loop-k.invariant.0 at c.step-first.ensures) c.loop-k.s.rearranged) in
    let y = second_half a b h k _ (stepped_byte b k c.loop-k.second _ _ _ c.loop-k.invariant.2 (rw c.loop-k.invariant.0 at c.step-second.ensures) c.loop-k.t.rearranged) in (
      omega arith,
      stepped_more a k c.loop-k.first _ _ _ c.loop-k.invariant.1 (rw c.loop-k.invariant.0 at c.step-first.ensures),
      stepped_more b k c.loop-k.second _ _ _ c.loop-k.invariant.2 (rw c.loop-k.invariant.0 at c.step-second.ensures),
      sides_more (given_halves a b h) h k c.args.dst.now c.loop-k.dst _ _ c.loop-k-test.true (omega arith) x y c.loop-k.invariant.3,
    )
