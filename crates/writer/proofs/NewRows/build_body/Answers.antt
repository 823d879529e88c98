-- `writer::NewRows::build_body`: the faces are gathered, and the body is written from them. Assumes nothing.
use Prim.Native.Nat.{ℕ}
use native.Mathlib.Omega.{arith}
use mathlib.Core.Path.{sym, ap, ◌∙◌, subst}
use lib.ListN.{replicate, length-replicate}
use lib.Seq.{sets}
use Rattle.writer.specs.Sources.{EnteredIn}
use Rattle.writer.proofs.Gathered.{found_run, found_at}
use Rattle.writer.proofs.Rows.{body_gathered}
use borrow.Author.Rules.{rules}
use Rattle.writer.proofs.NewRows.build_body.Goals as goal

pub put_body-requires : goal.put_body-requires
put_body-requires c =
    let t = c.args.self.now in
    let p = c.requires in
    let e = c.byte_at-dim.ensures.0 in
    let found = c.gather_faces.ensures in
    record {
      part = p.part;
      low = omega (arith, e, p.named.low);
      source = omega (arith, p.named.source);
      listed = omega (arith, e, p.named.low, found.same);
      entered = λ h k l.
          subst (EnteredIn t.numbering c.args.part.0)
          (sym (found_at t.image.now c.args.from t.starts.now t.ent.now _ (replicate 4 0) _ (omega (arith, e, p.named.low, length-replicate {A = ℕ} 4 0)) found h k l))
          (p.entered (omega (arith, e, h)) k (omega (arith, e, l)));
      room = search rules;
    }

pub returns : goal.returns
returns c =
    let t = c.args.self.now in
    let e = c.byte_at-dim.ensures.0 in
    let found = c.gather_faces.ensures in
    c.put_body.ensures
    ∙ ap (sets c.args.row.now 24)
    (body_gathered t.image.now c.args.from t.starts.now t.ent.now t.numbering.masks.now t.numbering.base.now t.numbering.slots.now c.args.part.0 _ _ e
    (found_run t.image.now c.args.from t.starts.now t.ent.now _ (replicate 4 0) _ (omega (arith, e, c.requires.named.low, length-replicate {A = ℕ} 4 0)) found))
