-- `field::put_long`: its eight bytes. Assumes nothing.
use mathlib.Core.Path.{◌∙◌}
use Rattle.field.proofs.Numbers.{length-bytes, le_bytes_8}
use Rattle.field.proofs.Stores.{put_is}
use Rattle.field.proofs.put_long.Goals as goal

pub returns : goal.returns
returns c = put_is c.args.out.now _ _ c.args.at 8 c.requires (length-bytes 8 c.args.v) (c.copy_from_slice.ensures.after ∙ c.to_le_bytes.ensures ∙ le_bytes_8 c.args.v)
