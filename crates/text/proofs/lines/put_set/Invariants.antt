-- `text::lines::put_set` meets its contract: the lines of the parts that are left give the lines of all. Assumes nothing.
use lib.ListN.{length}
use Rattle.paper.specs.Listing.{set_line_list}
use Rattle.rows.specs.Tables.{set_of}
use Rattle.decimal.proofs.Runs.{Left, texts_from}
use Rattle.text.proofs.lines.Rows.{part_text}
use Rattle.text.proofs.lines.put_set.Given as goal

abbrev pub invariant-loop-p : goal.invariant-loop-p
invariant-loop-p l = let S = set_of l.tables in Left l.initial.out l.at (set_line_list S) l.out l.to (texts_from (part_text S) (length S) l.p)
