-- `rows::values::one_value` meets its contract: the values of kinds and bits that stand are the same where both are. Assumes nothing.
use native.Mathlib.Omega.{arith}
use mathlib.Core.Path.{◌∙◌}
use Rattle.rows.proofs.values.Laws.{plain, values_compared}
use Rattle.rows.proofs.values.one_value.Goals as goal

pub same_value-requires-clause-a_plain : goal.same_value-requires-clause-a_plain
same_value-requires-clause-a_plain c = plain c.args.kind c.args.bits _ c.requires.first_stands c.value_of.ensures

pub same_value-requires-clause-b_plain : goal.same_value-requires-clause-b_plain
same_value-requires-clause-b_plain c = plain c.args.kind2 c.args.bits2 _ c.requires.second_stands c.value_of-2.ensures

pub returns : goal.returns
returns c =
    let a = c.args in
    c.same_value.ensures
    ∙ values_compared a.kind a.bits a.kind2 a.bits2 _ _ c.requires.first_stands c.requires.second_stands (omega arith) (omega arith)
    c.value_of.ensures c.value_of-2.ensures
