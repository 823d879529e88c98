-- `places::send_entry`: the name is found, and its row gets the part. Assumes nothing.
use Rattle.places.proofs.Entries.{entry_sought}
use Rattle.places.proofs.send_entry.Goals as goal

pub seek-j-requires : goal.seek-j-requires
seek-j-requires c = entry_sought c.args.order.now.listing c.requires c.name_of.ensures
