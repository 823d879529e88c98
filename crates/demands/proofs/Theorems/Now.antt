-- An accepted image that holds a mesh, each object where a placement says; an accepted migration keeps the mesh and moves the placement.
-- Assumes nothing.
use Prim.Native.Nat.{ℕ, ◌≤◌}
use mathlib.Core.Path.{◌≡◌, refl, sym, ap, ◌∙◌, subst, subst⁻¹}
use mathlib.Core.List.{List}
use lib.ListN.{length}
use lib.Dec.{T}
use lib.Pow.{are_bytes}
use Rattle.paper.specs.Outcome.{accepted}
use Rattle.paper.specs.Image.{Set, row_total}
use Rattle.paper.specs.Mesh.{Entity, Parts, parts_of, mesh_of}
use Rattle.paper.specs.Sound.{max_image}
use Rattle.paper.specs.Placement.{Placement, objects, spread, rows_for, place_in, places_of, image_for, WellPlaced}
use Rattle.paper.specs.Move.{moved, Migrated, migrated, migrate_of}
use Rattle.demands.proofs.Theorems.Statements.{Accepts, mesh, places, Holds}
use Rattle.demands.proofs.Theorems.T1.{theorem_1}
use Rattle.demands.proofs.Theorems.T2.{theorem_2}
use Rattle.demands.proofs.Theorems.T3.{theorem_3}
use Rattle.demands.proofs.Theorems.Destinations.{moved_same, moved_fits}
use Rattle.demands.proofs.Theorems.Went.{Went, went, migrate_is}

-- b is an accepted image of n parts that holds the mesh es, each object where `place` says
pub record Now (n : ℕ) (es : List Entity) (place : Placement) (b : List ℕ) : Type 0 where
  pub set : Set
  pub is_bytes : T (are_bytes b)
  pub accepts : Accepts b set
  pub count : length set ≡ n
  pub whole : mesh set ≡ es
  pub placed : places_of es (places set) ≡ places_of es place

-- an accepted image holds its own mesh and placement
abbrev pub begin : (b : List ℕ) (S : Set) → T (are_bytes b) → Accepts b S → Now (length S) (mesh S) (places S) b
begin b S y a = record { set = S; is_bytes = y; accepts = a; count = refl; whole = refl; placed = refl }

-- ---- one migration

-- the image of an accepted migration
image_is : (S : Set) (l : List ℕ) → image_for (length S) (mesh S) (moved l (places S)) ≡ (migrated S l).image
unfolding migrated
image_is S l = refl

still_placed : (S : Set) (l : List ℕ) (m : Migrated) → WellPlaced (length S) (mesh S) (places S) → Went S l m
    → WellPlaced (length S) (mesh S) (moved l (places S))
unfolding places_of
still_placed S l m f w =
    record {
      some_part = f.some_part;
      few_parts = f.few_parts;
      mesh = f.mesh;
      placed = moved_fits (length S) l w.dests (places S) (objects (mesh S)) f.placed;
    }

moves : (place : Placement) (b : List ℕ) (S : Set) (l : List ℕ) (m : Migrated) → T (are_bytes b) → Accepts b S
    → places_of (mesh S) (places S) ≡ places_of (mesh S) place → Went S l m → Now (length S) (mesh S) (moved l place) (migrated S l).image
unfolding places_of
moves place b S l m y a e w =
    let new : Placement = moved l (places S) in
    let fit : WellPlaced (length S) (mesh S) new = still_placed S l m (theorem_1 b S y a).fits w in
    let small : length (image_for (length S) (mesh S) new) ≤ max_image = subst (λ (i : List ℕ). length i ≤ max_image) (sym (image_is S l)) w.small in
    let h : Holds (length S) (mesh S) new = theorem_3 (length S) (mesh S) new fit small in
    subst (Now (length S) (mesh S) (moved l place)) (image_is S l) (record {
      set = rows_for (spread (length S) (mesh S) new);
      is_bytes = h.bytes;
      accepts = theorem_2 (length S) (mesh S) new fit small;
      count = h.count;
      whole = ap mesh_of h.parts ∙ h.mesh;
      placed = ap (λ (ps : Parts). places_of (mesh S) (place_in ps)) h.parts ∙ h.places ∙ moved_same l (places S) place (objects (mesh S)) e;
    })

-- the same for n and es that the set has by equations
pub moves_at : (n : ℕ) (es : List Entity) (place : Placement) (b : List ℕ) (l : List ℕ) (m : Migrated) (s : Now n es place b)
    → Went s.set l m → Now n es (moved l place) m.image
moves_at n es place b l m s w =
    let S = s.set in
    subst (λ (x : Migrated). Now n es (moved l place) x.image) w.is
    (subst (λ (k : ℕ). Now k es (moved l place) (migrated S l).image) s.count
    (subst (λ (z : List Entity). Now (length S) z (moved l place) (migrated S l).image) s.whole
    (moves place b S l m s.is_bytes s.accepts (subst⁻¹ (λ (z : List Entity). places_of z (places S) ≡ places_of z place) s.whole s.placed) w)))

-- ---- what it writes

-- the rows that the residence, copy and owner rules give for the new placement: an accepted image that holds exactly the new parts
pub record Writes (S : Set) (l : List ℕ) (m : Migrated) (S' : Set) : Type 0 where
  pub is_bytes : T (are_bytes m.image)
  pub accepts : Accepts m.image S'
  pub rows : S' ≡ rows_for (spread (length S) (mesh S) (moved l (places S)))
  pub parts : parts_of S' ≡ spread (length S) (mesh S) (moved l (places S))
  pub total : m.rows ≡ row_total S'

pub writes : (b : List ℕ) (S : Set) (l : List ℕ) (out work : ℕ) (m : Migrated) → T (are_bytes b) → Accepts b S → migrate_of b l out work ≡ accepted m
    → Writes S l m (rows_for (spread (length S) (mesh S) (moved l (places S))))
unfolding migrated
writes b S l out work m y a e =
    let w = went S l out work m (sym (migrate_is b S l out work a) ∙ e) in
    let new : Placement = moved l (places S) in
    let fit : WellPlaced (length S) (mesh S) new = still_placed S l m (theorem_1 b S y a).fits w in
    let small : length (image_for (length S) (mesh S) new) ≤ max_image = w.small in
    let h : Holds (length S) (mesh S) new = theorem_3 (length S) (mesh S) new fit small in
    let is : image_for (length S) (mesh S) new ≡ m.image = ap (λ (x : Migrated). x.image) w.is in
    record {
      is_bytes = subst (λ (i : List ℕ). T (are_bytes i)) is h.bytes;
      accepts = subst (λ (i : List ℕ). Accepts i (rows_for (spread (length S) (mesh S) new))) is (theorem_2 (length S) (mesh S) new fit small);
      rows = refl;
      parts = h.parts;
      total = ap (λ (x : Migrated). x.rows) (sym w.is);
    }
