-- `text::put_listing` meets its contract: the line for an input that is too long, or the answer's text. Assumes nothing.
use Rattle.decimal.proofs.Runs.{wrote_as}
use Rattle.text.proofs.Ends.{listing_long, listing_read}
use Rattle.text.proofs.put_listing.Goals as goal

pub returns-then-image-gt65536 : goal.returns-then-image-gt65536
returns-then-image-gt65536 c = wrote_as (listing_long _ c.if-image-gt65536.true) c.put_text.ensures

pub returns : goal.returns
returns c = wrote_as (listing_read _ c.if-image-gt65536.false) c.put_answer.ensures
