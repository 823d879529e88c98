-- `copies::same_faces` meets its contract: what is left of the test from slot i on gives the whole test. Assumes nothing.
use native.Mathlib.Omega.{arith}
use Rattle.copies.specs.Copies.{faces_agree}
use Rattle.copies.proofs.Compare.{faces_match, faces_differ}
use Rattle.copies.proofs.Loops.{left_more, left_fails, left_done}
use Rattle.copies.proofs.same_faces.Goals as goal

pub returns-then-keys-face : goal.returns-then-keys-face
unfolding faces_agree
returns-then-keys-face c = left_fails _ _ _ c.loop-i.invariant (omega arith)
    (let a = c.args in
    faces_differ a.image.now a.keys.now a.here a.at a.there a.to c.loop-i.i c.word_at.ensures c.word_at-in-loop-i.ensures c.if-keys-face.true)

pub loop-i-preserved : goal.loop-i-preserved
loop-i-preserved c = left_more _ _ _ c.loop-i.invariant (omega arith)
    (let a = c.args in
    faces_match a.image.now a.keys.now a.here a.at a.there a.to c.loop-i.i c.word_at.ensures c.word_at-in-loop-i.ensures c.if-keys-face.false)

pub returns : goal.returns
unfolding faces_agree
returns c = left_done _ _ _ c.loop-i.invariant (omega arith)
