-- `copies::remote_slot` meets its contract: the place among the other parts is that of the word behind the row. Assumes nothing.
use native.Mathlib.Omega.{arith}
use mathlib.Core.Path.{◌∙◌}
use Rattle.copies.proofs.Remote.{mask_room, place_asked, slot-room, slot_is}
use Rattle.copies.proofs.remote_slot.Goals as goal

pub long_at-mask-requires : goal.long_at-mask-requires
long_at-mask-requires c = omega (arith, mask_room c.requires)

pub place-i-requires : goal.place-i-requires
place-i-requires c = place_asked c.requires c.long_at-mask.ensures

pub word_at-requires : goal.word_at-requires
word_at-requires c = slot-room c.requires c.long_at-mask.ensures c.place-i.ensures.0 c.place-i.ensures.1

pub returns : goal.returns
returns c = c.word_at.ensures
    ∙ slot_is c.requires c.long_at-mask.ensures c.place-i.ensures.0 c.place-i.ensures.1
