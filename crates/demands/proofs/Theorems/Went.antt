-- An accepted migration taken apart: what the refusals 13 to 18 say of its list, and that it is the migration of the image's set.
-- Assumes nothing.
use Prim.Native.Nat.{ℕ, ◌≤◌, ◌<◌}
use mathlib.Core.Path.{◌≡◌, ap, ◌∙◌}
use mathlib.Core.List.{List}
use lib.ListN.{length}
use lib.Dec.{T, ltb, leb→le}
use Rattle.laws.specs.Lists.{flat}
use Rattle.paper.specs.declared.EntryRule.TheVariants.{Whole, Destination, Known, Object}
use Rattle.paper.specs.Outcome.{Outcome, accepted, ◌>>=◌}
use Rattle.paper.specs.Image.{Set}
use Rattle.paper.specs.Mesh.{parts_of, is_object, holds}
use Rattle.paper.specs.Sound.{max_image}
use Rattle.paper.specs.Move.{entry_name, entry_part, all_entries, entry_fitting, entry_judged, Migrated, migrated, size_set, migrate_set, migrate_of}
use Rattle.demands.proofs.Theorems.Statements.{Accepts}
use Rattle.paper.proofs.Outcomes.{accepted_inj, bind_inv, then_inv, must_inv}
use Rattle.demands.proofs.Rows.Entries.{list_inv}

pub record Went (S : Set) (l : List ℕ) (m : Migrated) : Type 0 where
  pub entries : (i : ℕ) → i < all_entries l → T (entry_fitting l i)
  pub dests : (i : ℕ) → i < all_entries l → T (ltb (entry_part l i) (length S))
  pub there : (i : ℕ) → i < all_entries l → T (holds (flat (parts_of S)) (entry_name l i))
  pub objects : (i : ℕ) → i < all_entries l → T (is_object (flat (parts_of S)) (entry_name l i))
  pub small : length (migrated S l).image ≤ max_image
  pub is : migrated S l ≡ m

pub went : (S : Set) (l : List ℕ) (out work : ℕ) (m : Migrated) → migrate_set S l out work ≡ accepted m → Went S l m
unfolding migrate_set entry_judged
went S l out work m e =
    let sized = bind_inv (size_set S l work) _ m e in
    let n = sized.0 in
    let list = list_inv S l work n sized.1 in
    let s₁₇ = then_inv _ _ n list.1 in
    let s₁₈ = then_inv _ _ n s₁₇.2 in
    let s₁₉ = then_inv _ _ m sized.2 in
    record {
      entries = list.0 Whole;
      dests = list.0 Destination;
      there = list.0 Known;
      objects = list.0 Object;
      small = leb→le (length (migrated S l).image) max_image (must_inv 18 _ s₁₈.0 s₁₈.1);
      is = accepted_inj s₁₈.2 ∙ accepted_inj s₁₉.2;
    }

-- migration of an accepted image is migration of its set
pub migrate_is : (b : List ℕ) (S : Set) (l : List ℕ) (out work : ℕ) → Accepts b S → migrate_of b l out work ≡ migrate_set S l out work
unfolding migrate_of ◌>>=◌
migrate_is b S l out work a = ap (λ (o : Outcome Set). o >>= λ S. migrate_set S l out work) a
