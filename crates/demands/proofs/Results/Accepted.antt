-- Exactly when a migration is accepted: refusals 13 to 16 judge the list by the part count and the mesh alone, 17 to 19 the buffers.
-- Assumes nothing.
use Prim.Native.Nat.{ℕ, ◌≤◌, ◌<◌}
use mathlib.Core.Path.{◌≡◌, sym, ◌∙◌, subst}
use mathlib.Core.List.{List}
use lib.ListN.{length}
use lib.Dec.{T, ltb, leb, leb→le, le→leb}
use lib.Pow.{are_bytes}
use Rattle.laws.specs.Lists.{In, flat}
use Rattle.paper.specs.declared.EntryRule.TheVariants.{Whole, Destination, Known, Object}
use Rattle.paper.specs.Outcome.{accepted}
use Rattle.paper.specs.Image.{Set, row_total}
use Rattle.paper.specs.Mesh.{Entity, Parts, is_object, holds, parts_of, mesh_of}
use Rattle.paper.specs.Sound.{max_image, decode, rules_of, sound_of}
use Rattle.paper.specs.Move.{entry_name, entry_part, all_entries, entry_fitting, entry_judged, Migrated, migrated, size_set, migrate_set, migrate_of}
use Rattle.laws.proofs.Tests.{iff_eq}
use Rattle.laws.proofs.Members.{in_flat, flat_in}
use Rattle.demands.proofs.Entities.Names.{holds_in, in_holds}
use Rattle.paper.proofs.Outcomes.{accepted_inj, bind_inv, then_inv, must_inv, must_ok, then_ok, bind_ok}
use Rattle.paper.proofs.ImageCodec.{decode_inv}
use Rattle.demands.specs.Passed.{ListPassed}
use Rattle.demands.proofs.Rows.Entries.{list_passes, list_inv}
use Rattle.demands.proofs.Fit.Record.{Fit}
use Rattle.demands.proofs.Fit.ToMesh.{in_mesh, mesh_in, mesh_object}
use Rattle.demands.proofs.Sound.Facts.{sound_inv}
use Rattle.demands.proofs.Sound.ToFit.{sound_fit}
use Rattle.demands.proofs.Theorems.Statements.{Accepts, mesh}
use Rattle.demands.proofs.Theorems.Went.{went, migrate_is}

-- 13 to 16: the entries stand, name parts below n, and name objects of es
pub record Listed (n : ℕ) (es : List Entity) (l : List ℕ) : Type 0 where
  pub fits : (i : ℕ) → i < all_entries l → T (entry_fitting l i)
  pub dests : (i : ℕ) → i < all_entries l → T (ltb (entry_part l i) n)
  pub there : (i : ℕ) → i < all_entries l → T (holds es (entry_name l i))
  pub object : (i : ℕ) → i < all_entries l → T (is_object es (entry_name l i))

-- 17 to 19: the working buffer, the greatest image, the output buffer
pub record Room (S : Set) (l : List ℕ) (out work : ℕ) : Type 0 where
  pub words : row_total S ≤ work
  pub small : length (migrated S l).image ≤ max_image
  pub bytes : length (migrated S l).image ≤ out

-- ---- of a set

each_passes : (S : Set) (l : List ℕ) → Listed (length S) (flat (parts_of S)) l → ListPassed S l
unfolding entry_judged
each_passes S l a Whole = a.fits
each_passes S l a Destination = a.dests
each_passes S l a Known = a.there
each_passes S l a Object = a.object

set_accepts : (S : Set) (l : List ℕ) (out work : ℕ) → Listed (length S) (flat (parts_of S)) l → Room S l out work
    → migrate_set S l out work ≡ accepted (migrated S l)
unfolding migrate_set
set_accepts S l out work a r =
    let m = migrated S l in
    bind_ok (size_set S l work) _ m (
    list_passes S l work (each_passes S l a)
    ∙ then_ok _ _ tt (must_ok 17 (leb (row_total S) work) (le→leb (row_total S) work r.words))
    ∙ then_ok _ _ tt (must_ok 18 (leb (length m.image) max_image) (le→leb (length m.image) max_image r.small))
    )
    ∙ then_ok _ _ tt (must_ok 19 (leb (length m.image) out) (le→leb (length m.image) out r.bytes))

set_room : (S : Set) (l : List ℕ) (out work : ℕ) (m : Migrated) → migrate_set S l out work ≡ accepted m → Room S l out work
unfolding migrate_set
set_room S l out work m e =
    let sized = bind_inv (size_set S l work) _ m e in
    let n = sized.0 in
    let s₁₇ = then_inv _ _ n (list_inv S l work n sized.1).1 in
    let s₁₈ = then_inv _ _ n s₁₇.2 in
    let s₁₉ = then_inv _ _ m sized.2 in
    record {
      words = leb→le (row_total S) work (must_inv 17 (leb (row_total S) work) s₁₇.0 s₁₇.1);
      small = leb→le (length (migrated S l).image) max_image (must_inv 18 (leb (length (migrated S l).image) max_image) s₁₈.0 s₁₈.1);
      bytes = subst (λ (x : Migrated). length x.image ≤ out) (sym (accepted_inj s₁₈.2)) (leb→le (length n.image) out (must_inv 19 (leb (length n.image) out) s₁₉.0 s₁₉.1));
    }

-- ---- the mesh says the same of a name as all parts together

holds_same : (es fs : List Entity) (k : ℕ) → ((e : Entity) → In e es → In e fs) → ((e : Entity) → In e fs → In e es) → holds es k ≡ holds fs k
holds_same es fs k f g = iff_eq (holds es k) (holds fs k) (half es fs f) (half fs es g)
  where
    half : (xs ys : List Entity) → ((e : Entity) → In e xs → In e ys) → T (holds xs k) → T (holds ys k)
    half xs ys h t =
        let w = holds_in xs k t in subst (λ (z : ℕ). T (holds ys z)) (sym w.2) (in_holds ys w.0 (h w.0 w.1))

module _ (ps : Parts) (F : Fit ps) where
  mesh-holds : (k : ℕ) → holds (flat ps) k ≡ holds (mesh_of ps) k
  mesh-holds k =
      holds_same (flat ps) (mesh_of ps) k (λ e i. let w = flat_in ps e i in in_mesh ps F w.0 e w.2) (λ e i. let w = mesh_in ps F e i in in_flat ps w.0 e w.2)

  of_mesh : (n : ℕ) (l : List ℕ) → Listed n (mesh_of ps) l → Listed n (flat ps) l
  of_mesh n l a =
      record {
        fits = a.fits;
        dests = a.dests;
        there = λ i h. subst T (sym (mesh-holds (entry_name l i))) (a.there i h);
        object = λ i h. subst T (sym (mesh_object ps F (entry_name l i))) (a.object i h);
      }

-- ---- of an image

pub image_fit : (b : List ℕ) (S : Set) → T (are_bytes b) → Accepts b S → Fit (parts_of S)
image_fit b S y a = sound_fit S (sound_inv b S y a).0

pub move_accepts : (b : List ℕ) (S : Set) (l : List ℕ) (out work : ℕ) → T (are_bytes b) → Accepts b S → Listed (length S) (mesh S) l → Room S l out work
    → migrate_of b l out work ≡ accepted (migrated S l)
move_accepts b S l out work y a h r =
    migrate_is b S l out work a ∙ set_accepts S l out work (of_mesh (parts_of S) (image_fit b S y a) (length S) l h) r

pub move_accepted : (b : List ℕ) (S : Set) (l : List ℕ) (out work : ℕ) (m : Migrated) → T (are_bytes b) → Accepts b S → migrate_of b l out work ≡ accepted m
    → Listed (length S) (mesh S) l × Room S l out work × (migrated S l ≡ m)
move_accepted b S l out work m y a e =
    let taken = sym (migrate_is b S l out work a) ∙ e in
    let w = went S l out work m taken in
    let F = image_fit b S y a in (
      record {
        fits = w.entries;
        dests = w.dests;
        there = λ i h. subst T (mesh-holds (parts_of S) F (entry_name l i)) (w.there i h);
        object = λ i h. subst T (mesh_object (parts_of S) F (entry_name l i)) (w.objects i h);
      },
      set_room S l out work m taken,
      w.is,
    )

-- an accepted image is not too long
pub image_small : (b : List ℕ) (S : Set) → Accepts b S → length b ≤ max_image
unfolding sound_of
image_small b S a = let w = bind_inv (decode b) rules_of S a in (decode_inv b w.0 w.1).small
