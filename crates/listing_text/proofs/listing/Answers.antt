-- `listing_text::listing` meets its contract: the header and the walk's text, or the one line.
-- Assumes nothing.
use Rattle.listing_text.proofs.Written.{puts_join, text_short, text_long}
use Rattle.listing_text.specs.Text.{header, of_walk}
use Rattle.binary_office.specs.Walk.{walk}
use mathlib.Core.Path.{sym}
use Rattle.listing_text.proofs.listing.Goals as goal

pub returns-then-stream-le32768 : goal.returns-then-stream-le32768
returns-then-stream-le32768 c = rw (sym (text_short c.args.stream.now c.if-stream-le32768.true))
    (puts_join header (of_walk (walk c.args.stream.now)) c.put_bytes-n.ensures c.put_walk.ensures)

pub returns : goal.returns
returns c = rw (sym (text_long c.args.stream.now c.if-stream-le32768.false)) c.put_bytes.ensures
