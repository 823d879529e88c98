-- `output::write`: the tables of slots are filled, then the head and the parts are written. Assumes nothing.
use native.Mathlib.Omega.{arith}
use Rattle.std.proofs.Math.Logic.{∥∥₁_elim}
use Rattle.std.proofs.Props.{props}
use Rattle.field.proofs.Reading.{bytes_all}
use Rattle.output.proofs.Masks.{head_there}
use Rattle.output.proofs.Stages.{slots_wanted, starts_wanted, lists-wanted, all-filled}
use Rattle.output.proofs.Image.{parts_ready, image-put}
use Rattle.output.proofs.write.Goals as goal

pub fill_slots-requires : goal.fill_slots-requires
fill_slots-requires c =
    ∥∥₁_elim c.args.plan.now.prepared (Prim.hlevel props) slots_wanted

pub part_starts-requires : goal.part_starts-requires
part_starts-requires c =
    ∥∥₁_elim c.args.plan.now.prepared (Prim.hlevel props) (λ P. starts_wanted P c.fill_slots.ensures)

pub fill_lists-requires : goal.fill_lists-requires
fill_lists-requires c =
    ∥∥₁_elim c.args.plan.now.prepared (Prim.hlevel props) (λ P. lists-wanted P c.fill_slots.ensures c.part_starts.ensures)

pub put_head-requires : goal.put_head-requires
put_head-requires c =
    ∥∥₁_elim c.args.plan.now.prepared (Prim.hlevel props) (λ P. (omega (arith, head_there P, c.requires), omega (arith, P.source.indexed.few)))

pub put_parts-requires : goal.put_parts-requires
put_parts-requires c =
    let bytes = bytes_all _ c.args.plan.now.source.tables.bytes in
    ∥∥₁_elim c.args.plan.now.prepared (Prim.hlevel props) (λ P.
    let F = all-filled P c.fill_slots.ensures c.part_starts.ensures c.fill_lists.ensures in
    parts_ready P bytes F c.args.out.now _ c.requires c.put_head.ensures)

pub returns : goal.returns
returns c =
    let bytes = bytes_all _ c.args.plan.now.source.tables.bytes in
    ∥∥₁_elim c.args.plan.now.prepared (Prim.hlevel props) (λ P.
    let F = all-filled P c.fill_slots.ensures c.part_starts.ensures c.fill_lists.ensures in
    image-put P bytes F c.args.out.now _ _ c.requires c.put_head.ensures c.put_parts.ensures)
