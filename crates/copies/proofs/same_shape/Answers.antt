-- `copies::same_shape` meets its contract: a vertex by its coordinates, any other row by its boundary. Assumes nothing.
use native.Mathlib.Omega.{arith}
use mathlib.Core.Path.{◌∙◌, sym}
use Rattle.copies.proofs.Shapes.{shapes_points, shapes-faces}
use Rattle.copies.proofs.same_shape.Goals as goal

pub returns-then-dim-eq0 : goal.returns-then-dim-eq0
returns-then-dim-eq0 c =
    let a = c.args in
    c.same_point.ensures
    ∙ shapes_points a.image.now a.keys.now a.here a.at a.there a.to a.dim c.if-dim-eq0.true

pub returns : goal.returns
returns c =
    let a = c.args in
    c.same_faces.ensures
    ∙ sym (shapes-faces a.image.now a.keys.now a.here a.at a.there a.to a.dim (omega arith))
