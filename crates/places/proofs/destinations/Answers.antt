-- `places::destinations`: every row stays, then each that the list names is sent. Assumes nothing.
use Rattle.std.proofs.Props.{props}
use Rattle.plan.proofs.Sources.{of_source}
use Rattle.places.proofs.ObjectRows.{is_sound}
use Rattle.places.proofs.SentObjects.{rows_there, addressed, destined}
use Rattle.places.proofs.destinations.Goals as goal

pub send-requires-clause-addressed : goal.send-requires-clause-addressed
send-requires-clause-addressed c = addressed c.args.source.now.tables.indexed c.requires

pub send-requires-clause-rows : goal.send-requires-clause-rows
send-requires-clause-rows c = of_source c.args.source.now (Prim.hlevel props) (λ s. rows_there s c.requires _ c.stay.ensures.same)

pub returns : goal.returns
returns c =
    let source = c.args.source.now in
    of_source source (Prim.hlevel props)
    (λ s. destined s c.requires (is_sound _ source.sound source.tables.bytes) _ _ c.stay.ensures c.send.ensures)
