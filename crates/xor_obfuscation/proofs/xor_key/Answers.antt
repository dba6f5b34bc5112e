-- `xor_obfuscation::xor_key` meets its contract: the loop has taken the characters from n on, seven elements for each.
-- Assumes nothing.
use Rattle.std.proofs.Common.{◌≡◌, ◌+◌, ◌*◌, ◌-◌, length, arith, rules, sym, ◌∙◌}
use Rattle.laws.specs.Choice.{within}
use Rattle.xor_obfuscation.proofs.Derived.{key_more, key_none, key_no, key_whole}
use Rattle.xor_obfuscation.proofs.xor_key.Goals as goal

pub returns-then-not-contains : goal.returns-then-not-contains
returns-then-not-contains c = let e : c.contains.result ≡ within 1 15 (length c.args.password.now) = search rules in key_no _ (sym e ∙ c.if-not-contains.true)

pub loop-n-init : goal.loop-n-init
loop-n-init c = key_none _ c.args.password.now

pub loop-n-preserved : goal.loop-n-preserved
loop-n-preserved c = let n = c.loop-n.n - 1 in
    let p = c.args.password.now in
    let e : n + 1 ≡ c.loop-n.n = omega arith in
    let g : 0x68 - (length p - 1 - n) * 7 ≡ 0x68 - (length p - c.loop-n.n) * 7 = omega arith in
    key_more _ p n c.loop-n.n c.loop-n.key c.char_key-key.result _ e (omega arith) c.loop-n.invariant g c.char_key-key.ensures

pub returns : goal.returns
returns c = let e : c.contains.result ≡ within 1 15 (length c.args.password.now) = search rules in
    let z : c.loop-n.n ≡ 0 = omega arith in
    key_whole c.args.password.now c.loop-n.key (sym e ∙ c.if-not-contains.false) (rw z at c.loop-n.invariant)
