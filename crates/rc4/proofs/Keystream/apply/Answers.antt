-- `rc4::Keystream::apply` meets its contract: after k turns the locals are the keystream after k bytes, and the first k bytes are written.
-- Assumes nothing.
use Rattle.std.proofs.Common.{◌≡◌, ◌+◌, ◌%◌, ◌<◌, length, get_or, min, refl, ap, arith, rules, lit<}
use Rattle.std.specs.Int.Bits.{bit_xor}
use Rattle.std.proofs.Math.Nat.{mod-lt}
use Rattle.std.proofs.Math.ListN.{length-set}
use Rattle.laws.proofs.Written.{written_none, written_more}
use Rattle.rc4.specs.Rc4.{applied}
use Rattle.rc4.proofs.Table.{after_none, after_more, byte_more, applies}
use Rattle.rc4.proofs.Keystream.apply.Goals as goal

pub loop-k-init : goal.loop-k-init
loop-k-init c = (search rules, search rules, search rules, after_none _, written_none _ 0 _)

pub loop-k-preserved : goal.loop-k-preserved
loop-k-preserved c = let k = c.args.self in
    let t = c.loop-k.self.table in
    let i = (c.loop-k.i + 1) % 256 in
    let j = (c.loop-k.j + get_or t i 0) % 256 in
    let hi : i < length t = rw c.loop-k.invariant.0 (mod-lt _ (lit< tt)) in
    let hj : j < length t = rw c.loop-k.invariant.0 (mod-lt _ (lit< tt)) in
    let x = ap (bit_xor (get_or c.args.src.now c.loop-k.k 0)) (byte_more k t c.loop-k.i c.loop-k.j c.loop-k.k i j c.loop-k.invariant.3 refl refl hi hj) in (
      simp length-set c.loop-k.invariant.0,
      mod-lt _ (lit< tt),
      mod-lt _ (lit< tt),
      after_more k t c.loop-k.i c.loop-k.j c.loop-k.k i j c.loop-k.invariant.3 refl refl,
      written_more (applied k c.args.src.now) 0 c.loop-k.k c.args.dst.now c.loop-k.dst _ (omega arith) (search rules) x c.loop-k.invariant.4,
    )

pub returns : goal.returns
returns c = let e : c.loop-k.k ≡ min (length c.args.src.now) (length c.args.dst.now) = omega arith in
    applies c.args.self c.args.src.now c.args.dst.now c.loop-k.self.table c.loop-k.dst c.loop-k.i c.loop-k.j c.loop-k.k e c.loop-k.invariant.3 c.loop-k.invariant.4
