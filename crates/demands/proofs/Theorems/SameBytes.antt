-- The bytes of an accepted image follow from its parts, these from its mesh and the placement of its objects, and the bytes give the set back.
-- Assumes nothing.
use Prim.Native.Nat.{ℕ}
use mathlib.Core.Path.{◌≡◌, sym, ap, ap₂, ◌∙◌}
use mathlib.Core.List.{List, [], map}
use lib.ListN.{length, get_or, length-map}
use lib.Seq.{ext_get_or}
use lib.Dec.{T}
use lib.Pow.{are_bytes}
use Rattle.laws.specs.Lists.{In}
use Rattle.paper.specs.Image.{Set, image_of}
use Rattle.paper.specs.Mesh.{Entity, Parts, name, ent_of, parts_of}
use Rattle.paper.specs.Placement.{spread, rows_for, places_of}
use Rattle.laws.proofs.Keyed.{ascending_ext}
use Rattle.paper.proofs.Outcomes.{accepted_inj}
use Rattle.demands.proofs.Mesh.Places.{spread_same}
use Rattle.demands.proofs.Theorems.Statements.{Accepts, mesh, places}
use Rattle.demands.proofs.Theorems.T1.{theorem_1}

pub same_parts : (b b' : List ℕ) (S S' : Set) → T (are_bytes b) → T (are_bytes b') → Accepts b S → Accepts b' S' → parts_of S ≡ parts_of S' → b ≡ b'
same_parts b b' S S' y y' a a' e = (theorem_1 b S y a).bytes ∙ ap (λ (ps : Parts). image_of (rows_for ps)) e ∙ sym (theorem_1 b' S' y' a').bytes

-- The same rows in the same parts, whatever their order: compared by entity, value, coordinates and boundary, which are what an Entity has.
pub same_rows : (b b' : List ℕ) (S S' : Set) → T (are_bytes b) → T (are_bytes b') → Accepts b S → Accepts b' S' → length S ≡ length S'
    → ((p : ℕ) (e : Entity) → In e (get_or (parts_of S) p []) → In e (get_or (parts_of S') p []))
    → ((p : ℕ) (e : Entity) → In e (get_or (parts_of S') p []) → In e (get_or (parts_of S) p [])) → b ≡ b'
unfolding parts_of
same_rows b b' S S' y y' a a' n f g =
    same_parts b b' S S' y y' a a'
    (ext_get_or [] (parts_of S) (parts_of S') (length-map S (λ rows. map (ent_of rows) rows) ∙ n ∙ sym (length-map S' (λ rows. map (ent_of rows) rows)))
    (λ p h. ascending_ext name (get_or (parts_of S) p []) (get_or (parts_of S') p []) ((theorem_1 b S y a).ascends p) ((theorem_1 b' S' y' a').ascends p) (f p) (g p)))

-- and from the mesh and the placement of its objects
pub same-places : (b b' : List ℕ) (S S' : Set) → T (are_bytes b) → T (are_bytes b') → Accepts b S → Accepts b' S'
    → length S ≡ length S' → mesh S ≡ mesh S' → places_of (mesh S) (places S) ≡ places_of (mesh S) (places S') → b ≡ b'
same-places b b' S S' y y' a a' n e h =
    same_parts b b' S S' y y' a a'
    ((theorem_1 b S y a).parts ∙ spread_same (length S) (mesh S) (places S) (places S') h
    ∙ ap₂ (λ (k : ℕ) (es : List Entity). spread k es (places S')) n e ∙ sym (theorem_1 b' S' y' a').parts)

pub same_bytes : (b : List ℕ) (S S' : Set) → Accepts b S → Accepts b S' → S ≡ S'
same_bytes b S S' a a' = accepted_inj (sym a ∙ a')
