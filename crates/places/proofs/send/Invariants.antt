-- `places::send`: the entries so far are sent. Assumes nothing.
use Rattle.places.proofs.Entries.{Sweeping}
use Rattle.places.proofs.send.Given as goal

abbrev pub invariant-loop-i : goal.invariant-loop-i
invariant-loop-i l = Sweeping l.list l.order.keys.now l.order.ord.now l.order.count l.initial.dest l.dest l.i l.from
