-- `sound::home_rules`: each table is filled before the rule that reads it. Assumes nothing.
use mathlib.Core.Path.{refl}
use native.Mathlib.Omega.{arith}
use Rattle.std.proofs.Common.{rules}
use Rattle.field.proofs.Reading.{bytes_all}
use Rattle.residence.proofs.owner.Laws.{countable, open_objects}
use Rattle.paper.specs.declared.Rule.TheVariants.{Residence, Owner}
use Rattle.rows.proofs.Copied.{index_own}
use Rattle.sound.proofs.Stages.{next}
use Rattle.sound.proofs.Told.{gone}
use Rattle.sound.proofs.home_rules.Goals as goal

pub count_objects-requires : goal.count_objects-requires
count_objects-requires c = countable c.args.tables.now.indexed c.cover.ensures.covers (omega arith)

pub judge-requires-2 : goal.judge-requires-2
judge-requires-2 c =
    let tables = c.args.tables.now in
    let passed = next _ Residence Owner refl (gone _ Residence c.in_ok-judge.ensures refl) in
    let counted = open_objects tables.indexed (bytes_all _ tables.bytes) passed c.cover.ensures.covers (omega arith) c.count_objects.ensures in
    let own = index_own tables.indexed in
    record {
      passed = passed;
      asked = λ part slot due. let there = due.there in search rules;
      told = λ part slot r there said. search rules;
    }
