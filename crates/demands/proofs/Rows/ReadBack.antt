-- The rows that parts make, read back, are those parts: the half of T3 that is about slots.
-- Assumes nothing.
use Prim.Native.Nat.{ℕ, suc, ◌+◌, ◌-◌, ◌*◌, ◌^◌, ◌<◌}
use native.Mathlib.Nat.{lt_trans}
use native.Mathlib.Omega.{arith}
use mathlib.Core.Path.{◌≡◌, sym, ap, ap₂, ◌∙◌, subst}
use mathlib.Core.Bool.{Bool, ◌&&◌}
use mathlib.Core.List.{List, ◌++◌, map}
use lib.ListN
use lib.ListN.{length, get_or, replicate, length-map}
use lib.Dec.{T, ltb, ltb→lt, lt→ltb}
use Rattle.laws.specs.Lists.{every, flat, index_of}
use Rattle.field.specs.Bytes.{words, bytes_of}
use Rattle.paper.specs.Image.{Row, no_row}
use Rattle.paper.specs.Mesh.{Entity, name_of, name, slots_of, shape_of, holds, slot_in, no_ent}
use Rattle.paper.specs.Placement.{body_in}
use Rattle.laws.proofs.Tests.{and_l, and_r}
use Rattle.field.proofs.Numbers.{words_back}
use Rattle.laws.proofs.Agree.{every_map, get_or_map, map_of_map, map_self}
use Rattle.laws.proofs.Places.{index_at, index_lt}
use Rattle.demands.proofs.Entities.Names.{name-number}
use Rattle.laws.proofs.Members.{every_in}

-- ---- a name is found at its index

-- ---- slots to numbers, for a part es whose entities have numbers of 32 bits

abbrev pub standing : List Entity → ℕ → ℕ → Bool
standing es d k = ltb k (2 ^ 32) && holds es (name_of d k)

pub slot_lt : (es : List Entity) (k : ℕ) → T (holds es k) → slot_in es k < length es
unfolding holds slot_in
slot_lt es k h = subst (λ (n : ℕ). index_of k (map name es) < n) (length-map es name) (index_lt k (map name es) h)

-- what stands at the place of a name has that name
pub slot_name : (es : List Entity) (k : ℕ) → T (holds es k) → name (get_or es (slot_in es k) no_ent) ≡ k
unfolding holds slot_in
slot_name es k h = sym (ListN.get_or-map name es (slot_in es k) no_ent) ∙ index_at k (map name es) h

module _ (es : List Entity) (small : (i : ℕ) → (get_or es i no_ent).number < 2 ^ 32) (few : length es < 2 ^ 32) where
  slot_number : (d k : ℕ) → T (standing es d k) → (get_or es (slot_in es (name_of d k)) no_ent).number ≡ k
  slot_number d k h =
      let s = slot_in es (name_of d k) in
      let held = and_r (ltb k (2 ^ 32)) (holds es (name_of d k)) h in
      let e = get_or es s no_ent in
      name-number e.dim e.number d k (small s) (ltb→lt k (2 ^ 32) (and_l (ltb k (2 ^ 32)) (holds es (name_of d k)) h)) (slot_name es (name_of d k) held)

  -- a boundary is written as its slots
  pub slots-written : (d : ℕ) (shape : List ℕ) → length shape ≡ d + 2 → T (every (standing es d) shape)
      → words (suc (suc d)) (body_in es (suc d) shape) ≡ map (λ k. slot_in es (name_of d k)) shape
  unfolding body_in
  slots-written d shape n t =
      let g : ℕ → ℕ = λ k. slot_in es (name_of d k) in
      let pad : List ℕ = replicate (24 - 4 * (d + 2)) 0 in
      ap₂ (λ (k : ℕ) (l : List ℕ). words k (l ++ pad)) (count d shape n) (ap flat (sym (map_of_map (bytes_of 4) g shape)))
      ∙ words_back (map g shape) pad (every_map g (standing es d) (λ w. ltb w (2 ^ 32)) (λ k h.
      lt→ltb (g k) (2 ^ 32) (lt_trans (slot_lt es (name_of d k) (and_r (ltb k (2 ^ 32)) (holds es (name_of d k)) h)) few)) shape t)
    where
      count : (d : ℕ) (shape : List ℕ) → length shape ≡ d + 2 → suc (suc d) ≡ length (map (λ k. slot_in es (name_of d k)) shape)
      count d shape n = omega (arith, n, length-map shape (λ k. slot_in es (name_of d k)))

  -- and read as numbers
  pub shape_back : (f : Entity → Row) → ((e : Entity) → (f e).number ≡ e.number) → (d : ℕ) (shape : List ℕ) → length shape ≡ d + 2
      → T (every (standing es d) shape) → shape_of (map f es) (suc d) (body_in es (suc d) shape) ≡ shape
  unfolding shape_of slots_of
  shape_back f same d shape n t =
      let g : ℕ → ℕ = λ k. slot_in es (name_of d k) in
      ap (λ (ss : List ℕ). map (λ s. (get_or (map f es) s no_row).number) ss) (slots-written d shape n t)
      ∙ map_of_map (λ s. (get_or (map f es) s no_row).number) g shape
      ∙ map_self (λ k. (get_or (map f es) (g k) no_row).number) shape (λ k i. let h = every_in (standing es d) shape t k i in
      ap (λ (r : Row). r.number) (get_or_map f es (g k) no_ent no_row (slot_lt es (name_of d k) (and_r (ltb k (2 ^ 32)) (holds es (name_of d k)) h)))
      ∙ same (get_or es (g k) no_ent) ∙ slot_number d k h)
