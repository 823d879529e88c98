-- `copies::same_fields` meets its contract: each number that is read is a field of its row. Assumes nothing.
use Rattle.copies.proofs.Compare.{value_read, fields_compared}
use Rattle.copies.proofs.same_fields.Goals as goal

pub one_value-value-requires-clause-first_stands : goal.one_value-value-requires-clause-first_stands
one_value-value-requires-clause-first_stands c = value_read c.args.image.now c.args.at c.byte_at-kind.ensures.0 c.long_at-bits.ensures c.requires.at_stands

pub one_value-value-requires-clause-second_stands : goal.one_value-value-requires-clause-second_stands
one_value-value-requires-clause-second_stands c = value_read c.args.image.now c.args.to c.byte_at-to_kind.ensures.0 c.long_at-to_bits.ensures c.requires.to_stands

pub returns : goal.returns
returns c =
    let a = c.args in
    fields_compared a.image.now a.at a.to c.one_value-value.ensures
    c.byte_at-kind.ensures.0 c.byte_at-to_kind.ensures.0
    c.long_at-bits.ensures c.long_at-to_bits.ensures
    c.long_at.ensures c.long_at-2.ensures c.byte_at.ensures.0 c.byte_at-2.ensures.0
