-- What fitting parts hold: a name stands for one entity, in each part and in all, and each part is closed under boundaries.
-- Assumes nothing.
use Prim.Native.Nat.{ℕ}
use mathlib.Core.Path.{sym, subst}
use mathlib.Core.List.{[]}
use lib.ListN.{get_or}
use lib.Dec.{T}
use Rattle.laws.specs.Lists.{In, flat}
use Rattle.paper.specs.Mesh.{Entity, Parts, name, holds}
use Rattle.laws.proofs.Members.{flat_in}
use Rattle.laws.proofs.Keyed.{ascends_uniq}
use Rattle.demands.proofs.Entities.Names.{Uniq, holds_in}
use Rattle.demands.proofs.Entities.Closed.{Closed}
use Rattle.demands.proofs.Entities.Fits.{fits_closed}
use Rattle.demands.proofs.Fit.Record.{Fit}

module _ (ps : Parts) (F : Fit ps) where
  pub flat_uniq : Uniq (flat ps)
  flat_uniq e f i j q = let a = flat_in ps e i in let b = flat_in ps f j in F.agree a.0 b.0 e f a.2 b.2 q

  pub part_uniq : (p : ℕ) → Uniq (get_or ps p [])
  part_uniq p = ascends_uniq name (get_or ps p []) (F.ascends p)

  pub part_closed : (p : ℕ) → Closed (get_or ps p [])
  part_closed p = fits_closed (get_or ps p []) (F.fits p)

  -- what a part holds by name is the entity itself
  pub in_held : (p q : ℕ) (e : Entity) → In e (get_or ps p []) → T (holds (get_or ps q []) (name e)) → In e (get_or ps q [])
  in_held p q e i t =
      let w = holds_in (get_or ps q []) (name e) t in subst (λ (x : Entity). In x (get_or ps q [])) (sym (F.agree p q e w.0 i w.1 w.2)) w.1
