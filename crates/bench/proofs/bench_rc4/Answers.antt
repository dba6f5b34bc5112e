-- `bench::bench_rc4` meets its contract: there is a keystream for a key that fits, and its bytes are written.
-- Assumes nothing.
use Rattle.std.proofs.Common.{◌≡◌, refl, sym, ap, ◌∙◌, rules, None}
use Rattle.laws.proofs.Choice.{stop, skip}
use Rattle.rc4.specs.declared.Keystream.{Keystream}
use Rattle.rc4.specs.Rc4.{enciphered, made}
use Rattle.rc4.proofs.Table.{some_fits, none_fits}
use Rattle.bench.proofs.bench_rc4.Goals as goal

pub returns-in_default-clause-value : goal.returns-in_default-clause-value
returns-in_default-clause-value c = let e : made c.args.key.now ≡ None = search rules in sym (none_fits _ e)

pub returns-in_default-clause-dst_after : goal.returns-in_default-clause-dst_after
returns-in_default-clause-dst_after c = skip _ refl refl

pub returns-clause-value : goal.returns-clause-value
returns-clause-value c = sym (some_fits _ _ (sym c.new.ensures ∙ c.in-Some.is)).0

pub returns-clause-dst_after : goal.returns-clause-dst_after
returns-clause-dst_after c = c.apply.ensures.bytes
    ∙ ap (λ (k : Keystream). enciphered k c.args.src.now c.args.dst.now) (some_fits _ _ (sym c.new.ensures ∙ c.in-Some.is)).1
    ∙ stop _ refl
