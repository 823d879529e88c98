-- There and back: a list and then its reverse give the first image again, and move as many objects.
-- Assumes nothing.
use Prim.Native.Nat.{ℕ, ◌≤◌, ◌<◌}
use native.Mathlib.Omega.{arith}
use mathlib.Core.Path.{◌≡◌, sym, ap, ap₂, ◌∙◌, subst, subst₂}
use mathlib.Core.List.{List}
use lib.ListN.{length}
use lib.Dec.{T}
use lib.Pow.{are_bytes}
use Rattle.paper.specs.Outcome.{accepted}
use Rattle.paper.specs.Image.{Set, row_total}
use Rattle.paper.specs.Mesh.{Entity, holds, parts_of}
use Rattle.paper.specs.Sound.{max_image}
use Rattle.paper.specs.Placement.{objects, places_of}
use Rattle.paper.specs.Move.{entry_name, moved, changes, Migrated, migrated, migrate_of}
use Rattle.demands.specs.Reverse.{reverse_of}
use Rattle.demands.proofs.Entities.Names.{holds_in}
use Rattle.demands.proofs.Fit.Record.{Fit}
use Rattle.demands.proofs.Fit.ToMesh.{mesh_in, found}
use Rattle.demands.proofs.Sound.Rows.{parts_count}
use Rattle.demands.proofs.Theorems.Statements.{Accepts, mesh, places}
use Rattle.demands.proofs.Results.Accepted.{Listed, move_accepts, move_accepted, image_fit, image_small}
use Rattle.demands.proofs.Results.Changes.{changes_sym}
use Rattle.demands.proofs.Results.Lands.{After, after, lands}
use Rattle.demands.proofs.Results.ReverseList.{moved_back, reverse_listed, reverse-bytes}
use Rattle.demands.proofs.Theorems.Now.{Now}
use Rattle.demands.proofs.Theorems.Destinations.{moved_same}

-- what an image holds is in one of its parts
held : (b : List ℕ) (S : Set) → T (are_bytes b) → Accepts b S → (k : ℕ) → T (holds (mesh S) k) → places S k < length S
held b S y a k t =
    let F : Fit (parts_of S) = image_fit b S y a in
    let w = holds_in (mesh S) k t in
    let v = mesh_in (parts_of S) F w.0 w.1 in
    subst₂ (λ (z n : ℕ). places S z < n) (sym w.2) (parts_count S) (found (parts_of S) F v.0 w.0 v.1 v.2).0

moved-count : (S : Set) (l : List ℕ) (m : Migrated) → migrated S l ≡ m → changes (places_of (mesh S) (places S)) (places_of (mesh S) (moved l (places S))) ≡ m.objects_moved
unfolding migrated
moved-count S l m e = ap (λ (x : Migrated). x.objects_moved) e

-- the reverse list, on a set that has its objects where the list sent those of S
goes_back : (S : Set) (l b : List ℕ) (s : Now (length S) (mesh S) (moved l (places S)) b)
    → (places_of (mesh s.set) (moved (reverse_of (places S) l) (places s.set)) ≡ places_of (mesh s.set) (places S))
    × (places_of (mesh s.set) (places s.set) ≡ places_of (mesh s.set) (moved l (places S)))
unfolding places_of
goes_back S l b s =
    let R = s.set in
    let at : places_of (mesh R) (places R) ≡ places_of (mesh R) (moved l (places S)) = subst (λ (fs : List Entity). places_of fs (places R) ≡ places_of fs (moved l (places S))) (sym s.whole) s.placed in
    (moved_same (reverse_of (places S) l) (places R) (moved l (places S)) (objects (mesh R)) at ∙ ap (places_of (mesh R)) (moved_back (places S) l), at)

pub there_and_back : (b : List ℕ) (S : Set) (l : List ℕ) (out work out' work' : ℕ) (m : Migrated) → T (are_bytes b) → Accepts b S
    → migrate_of b l out work ≡ accepted m → length b ≤ out' → m.rows ≤ work'
    → migrate_of m.image (reverse_of (places S) l) out' work' ≡ accepted (record { image = b; rows = row_total S; objects_moved = m.objects_moved })
there_and_back b S l out work out' work' m y a e room words =
    let A : After S l m = after b S l out work m y a e in
    let s = A.now in
    let R = s.set in
    let L = reverse_of (places S) l in
    let w = goes_back S l m.image s in
    let count : changes (places_of (mesh R) (places R)) (places_of (mesh R) (moved L (places R))) ≡ m.objects_moved =
    ap₂ changes w.1 w.0 ∙ changes_sym (places_of (mesh R) (moved l (places S))) (places_of (mesh R) (places S))
    ∙ ap (λ (es : List Entity). changes (places_of es (places S)) (places_of es (moved l (places S)))) s.whole
    ∙ moved-count S l m (move_accepted b S l out work m y a e).2 in
    let is : migrated R L ≡ record { image = b; rows = row_total S; objects_moved = m.objects_moved } =
    lands b S y a R L m.objects_moved (sym s.count) (sym s.whole) w.0 count in
    let length_is : length b ≡ length (migrated R L).image = ap (λ (x : Migrated). length x.image) (sym is) in
    move_accepts m.image R L out' work' s.is_bytes s.accepts
    (subst₂ (λ (n : ℕ) (es : List Entity). Listed n es L) (sym s.count) (sym s.whole) (reverse_listed (places S) l (length S) (mesh S) A.listed (held b S y a)))
    (record {
      words = subst (λ (n : ℕ). n ≤ work') (sym A.rows) words;
      small = subst (λ (n : ℕ). n ≤ max_image) length_is (image_small b S a);
      bytes = subst (λ (n : ℕ). n ≤ out') length_is room;
    })
    ∙ ap accepted is

-- the reverse of a list of bytes is one
pub reverse_is_bytes : (b : List ℕ) (S : Set) (l : List ℕ) (out work : ℕ) (m : Migrated) → T (are_bytes b) → T (are_bytes l) → Accepts b S
    → migrate_of b l out work ≡ accepted m → T (are_bytes (reverse_of (places S) l))
reverse_is_bytes b S l out work m y yl a e =
    let listed : Listed (length S) (mesh S) l = (move_accepted b S l out work m y a e).0 in
    reverse-bytes (places S) l yl (λ i h.
    let q = held b S y a (entry_name l i) (listed.there i (omega arith)) in omega (arith, (image_fit b S y a).few_parts, parts_count S))
