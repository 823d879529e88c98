-- `field::put_word`: its four bytes. Assumes nothing.
use mathlib.Core.Path.{◌∙◌}
use Rattle.field.proofs.Numbers.{length-bytes, le_bytes_4}
use Rattle.field.proofs.Stores.{put_is}
use Rattle.field.proofs.put_word.Goals as goal

pub returns : goal.returns
returns c = put_is c.args.out.now _ _ c.args.at 4 c.requires (length-bytes 4 c.args.v) (c.copy_from_slice.ensures.after ∙ c.to_le_bytes.ensures ∙ le_bytes_4 c.args.v)
