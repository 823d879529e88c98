-- `entities::entities`: what is gathered, merged. Assumes nothing.
use mathlib.Core.Path.{refl, sym, ◌∙◌}
use Rattle.entities.proofs.Members.{gathered_runs, merged_names, entities_listed}
use Rattle.entities.proofs.entities.Goals as goal

pub merge_runs-requires-clause-runs : goal.merge_runs-requires-clause-runs
merge_runs-requires-clause-runs c =
    gathered_runs c.args.tables.now.indexed _ c.requires.named _ _ _ _ _ c.requires.room.0 c.gather-count.ensures

pub ascends-requires : goal.ascends-requires
ascends-requires c =
    merged_names c.args.tables.now.indexed _ c.requires.named _ _ _ _ _ c.requires.room.0 c.gather-count.ensures _ _ _ _ c.merge_runs.ensures

pub returns-then-ascends : goal.returns-then-ascends
returns-then-ascends c =
    entities_listed c.args.tables.now.indexed _ c.requires.named _ _ _ _ _ c.requires.room.0 c.gather-count.ensures _ _ _ _ c.merge_runs.ensures _ refl
    (sym c.if-ascends.true ∙ c.ascends.ensures)

pub returns-else-ascends : goal.returns-else-ascends
returns-else-ascends c =
    entities_listed c.args.tables.now.indexed _ c.requires.named _ _ _ _ _ c.requires.room.0 c.gather-count.ensures _ _ _ _ c.merge_runs.ensures _ refl
    (sym c.if-ascends.false ∙ c.ascends.ensures)
