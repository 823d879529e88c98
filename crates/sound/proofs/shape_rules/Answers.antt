-- `sound::shape_rules`: three rules in their order. Assumes nothing.
use Prim.Native.Nat.{◌+◌, ◌<◌, ◌≤◌}
use mathlib.Core.Path.{◌≡◌, refl}
use lib.ListN.{length, get_or}
use native.Mathlib.Omega.{arith}
use Rattle.std.proofs.Common.{rules}
use Rattle.boundary.specs.Boundary.{RowAhead}
use Rattle.paper.specs.declared.Rule.TheVariants.{Fields, Order, Boundary}
use Rattle.paper.specs.Sound.{judged, fields_fit}
use Rattle.rows.specs.Tables.{set_of}
use Rattle.fields.specs.Order.{key_ascends}
use Rattle.fields.proofs.Laws.{fields-judged}
use Rattle.fields.proofs.Keys.{keys_judged}
use Rattle.index.specs.Index.{row_from}
use Rattle.rows.proofs.Laws.{part_there, row_there, offset_there}
use Rattle.sound.specs.Tests as test
use Rattle.sound.proofs.Stages.{nothing_ahead, next}
use Rattle.sound.proofs.Told.{as_told, gone}
use Rattle.sound.proofs.Turns.{part_within, row_within, for_boundary}
use Rattle.sound.proofs.shape_rules.Goals as goal

pub judge-requires : goal.judge-requires
judge-requires c =
    let tables = c.args.tables.now in
    record {
      passed = nothing_ahead _;
      asked = λ part slot due.
          let part_counted : part.0 < tables.parts = part_there tables.indexed _ _ due.there in
          let in_starts : part.0 < length tables.starts.now = part_within tables.indexed _ _ due.there in
          let in_offs : get_or tables.starts.now part.0 0 + slot.0 < length tables.offs.now = row_within tables.indexed _ _ due.there in
          let in_image : get_or tables.offs.now (get_or tables.starts.now part.0 0 + slot.0) 0 + 48 ≤ length tables.image.now = omega (arith, offset_there tables.indexed _ _ due.there) in
          let few = tables.indexed.few in
          grind arith;
      told = λ part slot r there said.
          let row : fields_fit tables.parts part.0 (row_from tables.image.now (get_or tables.offs.now (get_or tables.starts.now part.0 0 + slot.0) 0)) ≡ judged Fields (set_of tables) part.0 slot.0 = fields-judged tables.indexed part.0 slot.0 there in
          as_told {told = test.Fields} refl _ _ _ (grind arith);
    }

pub judge-requires-2 : goal.judge-requires-2
judge-requires-2 c =
    let tables = c.args.tables.now in
    record {
      passed = next _ Fields Order refl (gone _ Fields c.in_ok-judge.ensures refl);
      asked = λ part slot due.
          let in_starts : part.0 < length tables.starts.now = part_within tables.indexed _ _ due.there in
          let in_keys : get_or tables.starts.now part.0 0 + slot.0 < length c.args.keys.now = omega (arith, row_there tables.indexed _ _ due.there, c.requires.room) in
          search rules;
      told = λ part slot r there said.
          let names : key_ascends c.args.keys.now tables.starts.now part.0 slot.0 ≡ judged Order (set_of tables) part.0 slot.0 = keys_judged c.requires _ _ there in
          as_told {told = test.Order} refl _ _ _ (grind arith);
    }

pub judge-requires-3 : goal.judge-requires-3
judge-requires-3 c =
    let tables = c.args.tables.now in
    let passed = next _ Order Boundary refl (gone _ Order c.in_ok-judge-2.ensures refl) in
    record {
      passed = passed;
      asked = λ part slot due.
          let turn : RowAhead tables.image.now tables.offs.now tables.starts.now c.args.keys.now part.0 slot.0 = for_boundary tables.indexed c.requires passed due in
          search rules;
      told = λ part slot r there said. as_told {told = test.Boundary} refl _ _ _ (search rules);
    }
