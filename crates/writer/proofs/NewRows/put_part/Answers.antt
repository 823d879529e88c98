-- `writer::NewRows::put_part`: the count, and the rows. Assumes nothing.
use native.Mathlib.Omega.{arith}
use mathlib.Core.Path.{sym}
use Rattle.writer.specs.Sources.{rows_in}
use Rattle.writer.proofs.Parts.{rows_count, part-put, part_length}
use Rattle.writer.proofs.NewRows.put_part.Goals as goal

pub put_word-requires : goal.put_word-requires
put_word-requires c =
    omega (arith, c.requires.part_room, part_length (rows_in c.args.self.now c.args.members.now c.args.part.0))

pub put_rows-requires-clause-room : goal.put_rows-requires-clause-room
put_rows-requires-clause-room c =
    omega (arith, c.requires.part_room, part_length (rows_in c.args.self.now c.args.members.now c.args.part.0))

pub returns : goal.returns
returns c =
    let a = c.args in
    part-put (rows_in a.self.now a.members.now a.part.0) _ a.out.now _ _ a.at _ (sym (rows_count a.self.now a.part.0 a.members.now)) c.put_word.ensures c.put_rows.ensures
