-- `sound::copy_rule`: the copies that are named, then the names of the lowest copies, and only then row by row. Assumes nothing.
use mathlib.Core.Path.{◌≡◌}
use native.Mathlib.Omega.{arith}
use Rattle.std.proofs.Common.{rules, None}
use Rattle.paper.specs.declared.Rule.TheVariants.{Copies}
use Rattle.sound.proofs.Behind.{twins_clear, names_listed, names_distinct}
use Rattle.sound.proofs.copy_rule.Goals as goal

pub returns-in-Ok : goal.returns-in-Ok
returns-in-Ok c =
    let none : c.first_fault-twins.result ≡ None = search rules in
    names_listed c.args.tables.now.indexed c.requires.named c.requires.passed c.in-Ok.ensures (rw none at c.first_fault-twins.ensures)
    (λ part slot r there said. search rules)

pub unreachable-requires : goal.unreachable-requires
unreachable-requires c =
    let pass = c.in_ok-judge.ensures Copies (omega arith) in
    elim c.if-is_none.branch [
      | goal.then-is_none+in_default w ↦
          let distinct = names_distinct c.args.tables.now.indexed c.requires.named c.requires.passed w.entities.ensures pass in
          search rules
      | goal.else-is_none w ↦
          let none = twins_clear _ c.first_fault-twins.ensures (λ part slot r there said. search rules) pass in
          search rules
    ]
