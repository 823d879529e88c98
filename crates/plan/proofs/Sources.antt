-- What is known of a source. Assumes nothing.
use Rattle.std.proofs.Math.Logic.{∥∥₁_elim}
use Rattle.plan.specs.Plan.{Sourced}
use Rattle.plan.specs.declared.Source.{Source}

-- any proposition that follows of its facts
pub of_source : {P : Type 0} (s : Source) → IsProp P → (Sourced s.tables.image.now s.tables.offs.now s.tables.starts.now s.ord.now s.tables.parts s.entities → P) → P
of_source s prop f = ∥∥₁_elim s.ordered prop (λ o. f (record { sound = s.sound; indexed = s.tables.indexed; ordered = o }))
