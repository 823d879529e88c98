-- `fields::fields`: the eight tests of the definition. Assumes nothing.
use Rattle.fields.proofs.Laws.{fields_read}
use Rattle.fields.proofs.fields.Goals as goal

pub returns : goal.returns
returns c =
    let a = c.args in
    fields_read a.image.now a.at a.n a.part.0 c.byte_at-dim.ensures.0 c.byte_at-owner.ensures.0 c.byte_at-kind.ensures.0 c.byte_at-pad.ensures.0
    c.long_at-mask.ensures c.long_at-value.ensures c.fits.ensures c.has.ensures c.value_fits.ensures c.body_fits.ensures
