-- `text::answers::put_answer` meets its contract: what the check leaves is what the writers want. Assumes nothing.
use native.Mathlib.Omega.{arith}
use Rattle.field.proofs.Reading.{bytes_all}
use Rattle.decimal.proofs.Runs.{wrote_as}
use Rattle.text.proofs.answers.Answered.{refusal_room, refused_text, sound_text, sound_room}
use Rattle.text.proofs.answers.put_answer.Goals as goal

pub put_refusal-requires : goal.put_refusal-requires
put_refusal-requires c = refusal_room _ _ _

pub put_sound-requires-clause-room : goal.put_sound-requires-clause-room
put_sound-requires-clause-room c = sound_room c.in-Ok.ensures.index (bytes_all c.args.image.now (λ i. omega (arith, c.type_inv.image i))) c.requires

pub returns-in-Err : goal.returns-in-Err
returns-in-Err c = wrote_as (refused_text _ c.in-Err.ensures) c.put_refusal.ensures

pub returns-in-Ok : goal.returns-in-Ok
returns-in-Ok c = wrote_as (sound_text c.in-Ok.ensures.index) c.put_sound.ensures
