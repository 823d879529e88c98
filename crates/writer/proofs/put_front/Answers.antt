-- `writer::put_front`: four runs in a row. Assumes nothing.
use Rattle.writer.proofs.Rows.{front-written}
use Rattle.writer.proofs.put_front.Goals as goal

pub returns : goal.returns
returns c =
    front-written _ _ _ _ _ _ _ _ _ _ _ c.put_word.ensures c.put_bytes.ensures c.put_long.ensures c.put_long-2.ensures
