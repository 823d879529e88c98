-- Woken twice: a migration that is run again on its own result is accepted, gives the same bytes and moves nothing.
-- Assumes nothing.
use Prim.Native.Nat.{ℕ, ◌≤◌}
use mathlib.Core.Path.{◌≡◌, refl, sym, ap, ◌∙◌, subst, subst₂, fun_ext}
use mathlib.Core.List.{List}
use mathlib.Core.Option.{Option, none, some, get_or}
use lib.ListN.{length}
use lib.Dec.{T}
use lib.Pow.{are_bytes}
use Rattle.paper.specs.Outcome.{accepted}
use Rattle.paper.specs.Image.{row_total}
use Rattle.paper.specs.Mesh.{Entity}
use Rattle.paper.specs.Sound.{max_image}
use Rattle.paper.specs.Placement.{Placement, objects, places_of}
use Rattle.paper.specs.Move.{dest_of, moved, Migrated, migrated, migrate_of}
use Rattle.demands.proofs.Theorems.Statements.{mesh, places}
use Rattle.demands.proofs.Results.Accepted.{Listed, move_accepts}
use Rattle.demands.proofs.Results.Lands.{After, after, stays, set_of}
use Rattle.demands.proofs.Theorems.Now.{Now}
use Rattle.demands.proofs.Theorems.Destinations.{moved_same}

-- destinations taken twice are taken once
moved_twice : (l : List ℕ) (place : Placement) → moved l (moved l place) ≡ moved l place
unfolding moved
moved_twice l place = fun_ext (λ k. go (dest_of l k) (place k))
  where
    go : (o : Option ℕ) (q : ℕ) → get_or o (get_or o q) ≡ get_or o q
    go none q = refl
    go (some d) q = refl

-- the list on a set that has its objects where the list sent them
settled : (n : ℕ) (es : List Entity) (l : List ℕ) (place : Placement) (b : List ℕ) (s : Now n es (moved l place) b)
    → places_of (mesh s.set) (moved l (places s.set)) ≡ places_of (mesh s.set) (places s.set)
unfolding places_of
settled n es l place b s =
    let S = s.set in
    let at : places_of (mesh S) (places S) ≡ places_of (mesh S) (moved l place) = subst (λ (fs : List Entity). places_of fs (places S) ≡ places_of fs (moved l place)) (sym s.whole) s.placed in
    moved_same l (places S) (moved l place) (objects (mesh S)) at ∙ ap (places_of (mesh S)) (moved_twice l place) ∙ sym at

pub woken_twice : (b l : List ℕ) (out work out' work' : ℕ) (m : Migrated) → T (are_bytes b) → migrate_of b l out work ≡ accepted m
    → length m.image ≤ out' → m.rows ≤ work' → migrate_of m.image l out' work' ≡ accepted (record { image = m.image; rows = m.rows; objects_moved = 0 })
woken_twice b l out work out' work' m y e room words =
    let w = set_of b l out work m e in
    let S = w.0 in
    let A : After S l m = after b S l out work m y w.1 e in
    let s = A.now in
    let R = s.set in
    let is : migrated R l ≡ record { image = m.image; rows = row_total R; objects_moved = 0 } =
    stays m.image R s.is_bytes s.accepts l (settled (length S) (mesh S) l (places S) m.image s) in
    let length_is : length m.image ≡ length (migrated R l).image = ap (λ (x : Migrated). length x.image) (sym is) in
    move_accepts m.image R l out' work' s.is_bytes s.accepts
    (subst₂ (λ (n : ℕ) (es : List Entity). Listed n es l) (sym s.count) (sym s.whole) A.listed)
    (record {
      words = subst (λ (n : ℕ). n ≤ work') (sym A.rows) words;
      small = subst (λ (n : ℕ). n ≤ max_image) length_is A.small;
      bytes = subst (λ (n : ℕ). n ≤ out') length_is room;
    })
    ∙ ap accepted (is ∙ ap (λ (n : ℕ). record { image = m.image; rows = n; objects_moved = 0 }) A.rows)
