-- `rc4::Keystream::new` meets its contract: the key's length was asked, and the table is that of the key.
-- Assumes nothing.
use Rattle.std.proofs.Common.{Some, sym, ap, ◌∙◌}
use Rattle.rc4.proofs.Table.{table_keyed, made_some, made_none}
use Rattle.rc4.proofs.Keystream.new.Goals as goal

pub returns-then-not-fits : goal.returns-then-not-fits
returns-then-not-fits c = made_none c.args.key.now (sym c.fits.ensures ∙ c.if-not-fits.true)

pub returns : goal.returns
returns c = ap Some (table_keyed c.args.key.now _ c.table_of.ensures) ∙ made_some c.args.key.now (sym c.fits.ensures ∙ c.if-not-fits.false)
