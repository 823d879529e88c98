-- `places::send`: the entries so far are sent. Assumes nothing.
use native.Mathlib.Omega.{arith}
use Rattle.places.proofs.Entries.{sweeping_none, sweeping_ahead, sweeping_more, sweeping_done}
use Rattle.places.proofs.send.Goals as goal

pub loop-i-init : goal.loop-i-init
loop-i-init c = sweeping_none c.args.order.now.listing c.requires.addressed c.requires.rows

pub send_entry-from-requires : goal.send_entry-from-requires
send_entry-from-requires c =
    sweeping_ahead c.args.order.now.listing c.requires.addressed c.requires.rows _ _ _ c.loop-i.invariant (omega arith)

pub loop-i-preserved : goal.loop-i-preserved
loop-i-preserved c =
    sweeping_more c.args.order.now.listing c.requires.addressed c.requires.rows _ _ _ c.loop-i.invariant (omega arith) _ _ c.send_entry-from.ensures

pub returns : goal.returns
returns c =
    sweeping_done c.args.order.now.listing c.requires.addressed c.requires.rows _ _ _ c.loop-i.invariant (omega arith)
