-- `writer::NewRows::build_row`: front, body and remote slots. Assumes nothing.
use native.Mathlib.Omega.{arith}
use lib.ListN.{get_or}
use Rattle.part_set.proofs.Rank.{count_le}
use Rattle.writer.proofs.Rows.{row_written}
use Rattle.writer.proofs.NewRows.build_row.Goals as goal

pub put_remote-requires-clause-room : goal.put_remote-requires-clause-room
put_remote-requires-clause-room c =
    let p = c.requires in
    record { part = p.part; own = p.own; there = p.there; room = omega (arith, count_le (get_or c.args.self.now.numbering.masks.now c.args.entity 0)) }

pub returns : goal.returns
returns c =
    row_written c.requires c.args.row.now _ _ _ _ c.owner_of-owner.ensures.0 c.put_source.ensures c.build_body.ensures c.put_remote.ensures
