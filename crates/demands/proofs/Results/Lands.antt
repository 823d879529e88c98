-- Where a list leads: to an image that is known, where it gives each object the place that the image has it in.
-- Assumes nothing.
use Prim.Native.Nat.{ℕ, ◌≤◌}
use mathlib.Core.Path.{◌≡◌, refl, sym, ap, ap₂, ◌∙◌, subst}
use mathlib.Core.List.{List}
use lib.ListN.{length}
use lib.Dec.{T}
use lib.Pow.{are_bytes}
use Rattle.paper.specs.Outcome.{accepted}
use Rattle.paper.specs.Image.{Set, image_of, row_total}
use Rattle.paper.specs.Mesh.{Entity}
use Rattle.paper.specs.Sound.{max_image, sound_of}
use Rattle.paper.specs.Placement.{Placement, spread, rows_for, places_of, image_for}
use Rattle.paper.specs.Move.{moved, changes, Migrated, migrated, migrate_set, migrate_of}
use Rattle.paper.proofs.Outcomes.{bind_inv}
use Rattle.demands.proofs.Mesh.Places.{spread_same}
use Rattle.demands.proofs.Sound.Facts.{sound_inv}
use Rattle.demands.proofs.Sound.Canonical.{sound_canon}
use Rattle.demands.proofs.Theorems.Statements.{Accepts, mesh, places}
use Rattle.demands.proofs.Theorems.T1.{theorem_1}
use Rattle.demands.proofs.Results.Accepted.{Listed, move_accepted}
use Rattle.demands.proofs.Results.Changes.{changes_none}
use Rattle.demands.proofs.Theorems.Now.{Now, begin, moves_at, writes}
use Rattle.demands.proofs.Theorems.Went.{went, migrate_is}
use Rattle.demands.proofs.Theorems.SameBytes.{same_bytes}

-- ---- to an accepted image

module _ (b : List ℕ) (S : Set) (y : T (are_bytes b)) (a : Accepts b S) where
  -- its part count and its mesh, each object where it has it, make its rows
  own_rows : (n : ℕ) (es : List Entity) (place : Placement) → length S ≡ n → mesh S ≡ es → places_of es place ≡ places_of es (places S) → rows_for (spread n es place) ≡ S
  own_rows n es place c w h =
      ap rows_for (spread_same n es place (places S) h ∙ ap₂ (λ (k : ℕ) (fs : List Entity). spread k fs (places S)) (sym c) (sym w) ∙ sym (theorem_1 b S y a).parts)
      ∙ sym (sound_canon S (sound_inv b S y a).0)

  -- so a list that gives these places leads to it, from any set of that part count and mesh
  pub lands : (R : Set) (l : List ℕ) (k : ℕ) → length S ≡ length R → mesh S ≡ mesh R → places_of (mesh R) (moved l (places R)) ≡ places_of (mesh R) (places S)
      → changes (places_of (mesh R) (places R)) (places_of (mesh R) (moved l (places R))) ≡ k → migrated R l ≡ record { image = b; rows = row_total S; objects_moved = k }
  unfolding migrated image_for
  lands R l k c w h d =
      let rows : rows_for (spread (length R) (mesh R) (moved l (places R))) ≡ S = own_rows (length R) (mesh R) (moved l (places R)) c w h in
      let bytes : image_of (rows_for (spread (length R) (mesh R) (moved l (places R)))) ≡ b = ap image_of rows ∙ sym (sound_inv b S y a).1 in
      λ i. record { image = bytes i; rows = row_total (rows i); objects_moved = d i }

  -- and a list that leaves each object where it is leads back to the image itself
  pub stays : (l : List ℕ) → places_of (mesh S) (moved l (places S)) ≡ places_of (mesh S) (places S) → migrated S l ≡ record { image = b; rows = row_total S; objects_moved = 0 }
  stays l h = lands S l 0 refl refl h (ap (changes (places_of (mesh S) (places S))) h ∙ changes_none (places_of (mesh S) (places S)))

-- ---- from an accepted migration

-- only an accepted image is migrated
pub set_of : (b l : List ℕ) (out work : ℕ) (m : Migrated) → migrate_of b l out work ≡ accepted m → (S : Set) × Accepts b S
unfolding migrate_of
set_of b l out work m e = let w = bind_inv (sound_of b) (λ S. migrate_set S l out work) m e in (w.0, w.1)

-- what it leaves: an accepted image with the same mesh, each object at its new place, and its rows counted
pub record After (S : Set) (l : List ℕ) (m : Migrated) : Type 0 where
  pub now : Now (length S) (mesh S) (moved l (places S)) m.image
  pub rows : row_total now.set ≡ m.rows
  pub small : length m.image ≤ max_image
  pub listed : Listed (length S) (mesh S) l

pub after : (b : List ℕ) (S : Set) (l : List ℕ) (out work : ℕ) (m : Migrated) → T (are_bytes b) → Accepts b S → migrate_of b l out work ≡ accepted m → After S l m
after b S l out work m y a e =
    let w = went S l out work m (sym (migrate_is b S l out work a) ∙ e) in
    let now = moves_at (length S) (mesh S) (places S) b l m (begin b S y a) w in
    let new = writes b S l out work m y a e in
    record {
      now = now;
      rows = ap row_total (same_bytes m.image now.set (rows_for (spread (length S) (mesh S) (moved l (places S)))) now.accepts new.accepts) ∙ sym new.total;
      small = subst (λ (x : Migrated). length x.image ≤ max_image) w.is w.small;
      listed = (move_accepted b S l out work m y a e).0;
    }
