-- `text::write_listing` meets its contract: the place behind the text lies within the buffer, or past it. Assumes nothing.
use Rattle.text.proofs.Ends.{ends_short, ends_whole}
use Rattle.text.proofs.write_listing.Goals as goal

pub returns-then-out-end : goal.returns-then-out-end
returns-then-out-end c = ends_short _ c.put_listing-end.ensures c.if-out-end.true

pub returns : goal.returns
returns c = ends_whole _ c.put_listing-end.ensures c.if-out-end.false
