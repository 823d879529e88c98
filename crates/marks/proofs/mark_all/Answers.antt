-- `marks::mark_all`: the parts so far are marked, and no word behind them. Assumes nothing.
use native.Mathlib.Omega.{arith}
use Rattle.marks.proofs.Parts.{placed_again, all_start, all_closed, all_turn, all_end}
use Rattle.marks.proofs.mark_all.Goals as goal

pub loop-p-init : goal.loop-p-init
loop-p-init c = all_start _ _ _ _ _

pub mark_part-requires : goal.mark_part-requires
mark_part-requires c =
    record { placed = placed_again c.requires.placed _ c.loop-p.invariant.same; part_in_bounds = omega (arith, c.args.tables.now.indexed.count); closed = all_closed c.requires.placed c.requires.blank _ _ c.loop-p.invariant }

pub loop-p-preserved : goal.loop-p-preserved
loop-p-preserved c =
    all_turn c.requires.placed _ _ _ (omega (arith, c.args.tables.now.indexed.count)) c.loop-p.invariant c.mark_part.ensures

pub returns : goal.returns
returns c =
    all_end c.requires.placed c.requires.blank _ _ (omega (arith, c.args.tables.now.indexed.count)) c.loop-p.invariant
