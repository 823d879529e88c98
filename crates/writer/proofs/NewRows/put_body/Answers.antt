-- `writer::NewRows::put_body`: coordinates copied, or the faces' slots and zeros. Assumes nothing.
use Prim.Native.Nat.{◌+◌, ◌-◌, ◌*◌, ◌<◌}
use native.Mathlib.Omega.{arith}
use mathlib.Core.Path.{ap, sym, ◌∙◌}
use lib.ListN.{take, drop, replicate}
use lib.Seq.{sets}
use Rattle.laws.proofs.Stores.{sets_then}
use Rattle.field.proofs.Stores.{length_run}
use Rattle.writer.specs.Sources.{entry_in}
use Rattle.writer.proofs.Faces.{each_word, each_length}
use Rattle.writer.proofs.Rows.{body_vertex, body_faces}
use Rattle.writer.proofs.NewRows.put_body.Goals as goal

pub returns-then-dim-eq0 : goal.returns-then-dim-eq0
returns-then-dim-eq0 c =
    let a = c.args in
    c.copy.ensures ∙ ap (sets a.row.now 24) (sym (body_vertex (take 24 (drop a.from a.self.now.image.now)) (entry_in a.self.now.numbering a.part.0) (take (a.dim + 1) (drop 0 a.faces.now)) a.dim c.if-dim-eq0.true))

pub returns : goal.returns
returns c =
    let a = c.args in
    let pos : 0 < a.dim = omega (arith, c.if-dim-eq0.false) in
    let f = entry_in a.self.now.numbering a.part.0 in
    let coords = take 24 (drop a.from a.self.now.image.now) in
    let run = take (a.dim + 1) (drop 0 a.faces.now) in
    sets_then a.row.now _ _ 24 _ (each_word f run) (replicate (24 - 4 * (a.dim + 1)) 0) c.put_faces.ensures c.put_zeros.ensures
    (omega (arith, each_length f run, length_run a.faces.now 0 (a.dim + 1) c.requires.listed))
    ∙ ap (sets a.row.now 24) (sym (body_faces coords f run a.dim pos))
