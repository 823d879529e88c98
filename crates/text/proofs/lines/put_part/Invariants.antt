-- `text::lines::put_part` meets its contract: the lines of the rows that are left give the lines of all. Assumes nothing.
use mathlib.Core.List.{[]}
use lib.ListN.{length, get_or}
use Rattle.paper.specs.Listing.{part_lines}
use Rattle.rows.specs.Tables.{set_of}
use Rattle.decimal.proofs.Runs.{Left, texts_from}
use Rattle.text.proofs.lines.Rows.{row_text}
use Rattle.text.proofs.lines.put_part.Given as goal

abbrev pub invariant-loop-s : goal.invariant-loop-s
invariant-loop-s l = let own = get_or (set_of l.tables) l.part.0 [] in Left l.initial.out l.at (part_lines l.part.0 own) l.out l.to (texts_from (row_text (set_of l.tables) l.part.0) (length own) l.s)
