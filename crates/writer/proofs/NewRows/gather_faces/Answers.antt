-- `writer::NewRows::gather_faces`: the faces that are left to store give all. Assumes nothing.
use native.Mathlib.Omega.{arith}
use Rattle.field.proofs.Stores.{store_done}
use Rattle.writer.proofs.Gathered.{faces-length, face_found, face_stored}
use Rattle.writer.proofs.NewRows.gather_faces.Goals as goal

pub loop-k-preserved : goal.loop-k-preserved
loop-k-preserved c =
    let a = c.args in
    face_stored a.self.now.image.now a.at a.self.now.starts.now a.self.now.ent.now a.dim _ _ _ _ c.loop-k.invariant c.loop-k-test.true
    (face_found a.self.now.image.now a.at a.self.now.starts.now a.self.now.ent.now a.dim c.loop-k.k _ _ _ c.long_at.ensures c.lowest-low.ensures.0 c.word_at-slot.ensures)

pub returns : goal.returns
returns c =
    let a = c.args in
    record {
      same = c.loop-k.invariant.same;
      found = λ h.
          store_done c.loop-k.invariant (omega (arith, c.loop-k-test.false, faces-length a.self.now.image.now a.at a.self.now.starts.now a.self.now.ent.now a.dim));
    }
