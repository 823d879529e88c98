-- An empty list gives the same image, where the buffers suffice.
-- Assumes nothing.
use Prim.Native.Nat.{ℕ, ◌≤◌}
use native.Mathlib.Nat.{not-suc-le-zero}
use mathlib.Core.Path.{◌≡◌, refl, sym, ap, ◌∙◌, subst}
use mathlib.Core.List.{List, []}
use lib.ListN.{length}
use lib.Dec.{T}
use lib.Pow.{are_bytes}
use Rattle.laws.specs.Lists.{up_to, from, first_bad}
use Rattle.paper.specs.Outcome.{accepted}
use Rattle.paper.specs.Image.{Set, row_total}
use Rattle.paper.specs.Mesh.{Entity}
use Rattle.paper.specs.Sound.{max_image}
use Rattle.paper.specs.Placement.{Placement, places_of}
use Rattle.paper.specs.Move.{dest_of, moved, Migrated, migrated, migrate_of}
use Rattle.demands.proofs.Theorems.Statements.{Accepts, mesh, places}
use Rattle.demands.proofs.Results.Accepted.{Listed, move_accepts, image_small}
use Rattle.demands.proofs.Results.Lands.{stays}

-- it names no destination
moved_nothing : (place : Placement) → moved [] place ≡ place
unfolding moved dest_of up_to from first_bad
moved_nothing place = refl

-- and has no entry to refuse
listed_nothing : (n : ℕ) (es : List Entity) → Listed n es []
listed_nothing n es =
    record {
      fits = λ i h. absurd (not-suc-le-zero h);
      dests = λ i h. absurd (not-suc-le-zero h);
      there = λ i h. absurd (not-suc-le-zero h);
      object = λ i h. absurd (not-suc-le-zero h);
    }

pub empty_list : (b : List ℕ) (S : Set) (out work : ℕ) → T (are_bytes b) → Accepts b S → length b ≤ out → row_total S ≤ work
    → migrate_of b [] out work ≡ accepted (record { image = b; rows = row_total S; objects_moved = 0 })
empty_list b S out work y a room words =
    let is : migrated S [] ≡ record { image = b; rows = row_total S; objects_moved = 0 } =
    stays b S y a [] (ap (places_of (mesh S)) (moved_nothing (places S))) in
    let length_is : length b ≡ length (migrated S []).image = ap (λ (x : Migrated). length x.image) (sym is) in
    move_accepts b S [] out work y a (listed_nothing (length S) (mesh S)) (record {
      words = words;
      small = subst (λ (n : ℕ). n ≤ max_image) length_is (image_small b S a);
      bytes = subst (λ (n : ℕ). n ≤ out) length_is room;
    })
    ∙ ap accepted is
