-- `writer::NewRows::gather_faces`: the faces that are left to store give all. Assumes nothing.
use Rattle.field.proofs.Stores.{Storing}
use Rattle.writer.specs.Rows.{faces_at}
use Rattle.writer.proofs.NewRows.gather_faces.Given as goal

abbrev pub invariant-loop-k : goal.invariant-loop-k
invariant-loop-k l = Storing l.initial.faces 0 (faces_at l.self.image.now l.self.starts.now l.self.ent.now l.at l.dim) l.k l.faces
