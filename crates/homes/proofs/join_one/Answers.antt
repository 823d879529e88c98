-- `homes::join_one`: the lowest row, then its copies. Assumes nothing.
use Rattle.homes.proofs.Walking.{others_there, one-joined}
use Rattle.homes.proofs.join_one.Goals as goal

pub join_copies-requires : goal.join_copies-requires
join_copies-requires c = others_there c.requires c.long_at.ensures c.rest-others.ensures _

pub returns : goal.returns
returns c = one-joined c.requires c.long_at.ensures c.rest-others.ensures _ c.join_copies.ensures
