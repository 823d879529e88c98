-- A row by the tables is the row of a spread, where the tables are right for its entity.
-- Assumes nothing.
use Prim.Native.Nat.{ℕ, zero, suc, ◌+◌, ◌-◌, ◌*◌, ◌<◌}
use mathlib.Core.Path.{◌≡◌, refl, ap, ◌∙◌}
use mathlib.Core.Bool.{Bool}
use mathlib.Core.List.{List, [], ◌∷◌, ◌++◌, map}
use lib.ListN.{length, get_or, take, drop, replicate}
use lib.Dec.{T}
use Rattle.laws.specs.Lists.{In, keep, flat, up_to}
use Rattle.laws.proofs.Agree.{map_same, map_of_map}
use Rattle.laws.proofs.Members.{keep_in}
use Rattle.laws.proofs.Ranges.{up_to_in}
use Rattle.field.specs.Bytes.{u8_at, u32_at, u64_at, bytes_of}
use Rattle.part_set.specs.Masks.{has, parts_in, others}
use Rattle.paper.specs.Mesh.{Entity, Parts, name_of, no_ent, slot_in}
use Rattle.residence.specs.Owners.{poorest_of}
use Rattle.demands.proofs.ForCode.Spread.{mask_at, slot_by}
use Rattle.demands.proofs.ForCode.SpreadRows.{owner_by, body_by, row_by}
use Rattle.writer.specs.Entries.{entry_from, entry_of, remote_slots, body_from}
use Rattle.writer.specs.Rows.{source_at, faces_at, new_row, new_rows}

-- what the tables say of entity i for its row in part q
pub record Right (ps : Parts) (es : List Entity) (image offs starts ord ent masks base slots : List ℕ) (q i : ℕ) : Type 0 where
  pub number : u32_at image (source_at offs ord i) ≡ (get_or es i no_ent).number
  pub dim : u8_at image (source_at offs ord i + 4) ≡ (get_or es i no_ent).dim
  pub kind : u8_at image (source_at offs ord i + 6) ≡ (get_or es i no_ent).kind
  pub mask : get_or masks i 0 ≡ mask_at ps es i
  pub value : u64_at image (source_at offs ord i + 16) ≡ (get_or es i no_ent).value
  pub coords : (get_or es i no_ent).dim ≡ 0 → take 24 (drop (source_at offs ord i + 24) image) ≡ flat (map (bytes_of 8) (get_or es i no_ent).shape)
  pub places : (d : ℕ) → (get_or es i no_ent).dim ≡ suc d
      → faces_at image starts ent (source_at offs ord i) (suc d) ≡ map (λ k. slot_in es (name_of d k)) (get_or es i no_ent).shape
  pub entries : (d : ℕ) → (get_or es i no_ent).dim ≡ suc d → (k : ℕ) → In k (get_or es i no_ent).shape
      → entry_of masks base slots q (slot_in es (name_of d k)) ≡ slot_by ps es q (slot_in es (name_of d k))
  pub remotes : (p : ℕ) → In p (others (mask_at ps es i) q) → entry_from slots (get_or base i 0) (mask_at ps es i) p ≡ slot_by ps es p i

-- the owner by a table of counts
owner_right : (counts qs : List ℕ) → poorest_of counts qs ≡ owner_by (λ r. get_or counts r 0) qs
unfolding poorest_of owner_by
owner_right counts [] = refl
owner_right counts (p ∷ qs) = refl

module _ (ps : Parts) (es : List Entity) (image offs starts ord ent counts masks base slots : List ℕ) (q i : ℕ)
    (w : Right ps es image offs starts ord ent masks base slots q i) where
  body_right : (d : ℕ) → (get_or es i no_ent).dim ≡ d
      → body_from (take 24 (drop (source_at offs ord i + 24) image)) (entry_of masks base slots q) (faces_at image starts ent (source_at offs ord i) d) d
      ≡ body_by ps es q d (get_or es i no_ent).shape
  unfolding body_from body_by
  body_right zero e = w.coords e
  body_right (suc d) e =
      let shape = (get_or es i no_ent).shape in
      let f : ℕ → ℕ = entry_of masks base slots q in
      let g : ℕ → ℕ = λ k. slot_in es (name_of d k) in
      ap (λ (bs : List (List ℕ)). flat bs ++ replicate (24 - 4 * (d + 2)) 0)
      (ap (λ (l : List ℕ). map (bytes_of 4) (map f l)) (w.places d e)
      ∙ ap (map (bytes_of 4)) (map_of_map f g shape)
      ∙ map_of_map (bytes_of 4) (λ k. f (g k)) shape
      ∙ map_same (λ k. bytes_of 4 (f (g k))) (λ k. bytes_of 4 (slot_by ps es q (g k))) shape (λ k m. ap (bytes_of 4) (w.entries d e k m)))

  pub row_right : new_row image offs starts ord ent counts masks base slots q i ≡ row_by ps es (λ r. get_or counts r 0) q i
  unfolding new_row row_by remote_slots
  row_right =
      let at = source_at offs ord i in
      let b = get_or base i 0 in
      let owner = ap (λ (m : ℕ). poorest_of counts (parts_in m)) w.mask ∙ owner_right counts (parts_in (mask_at ps es i)) in
      let body = ap (λ (z : ℕ). body_from (take 24 (drop (at + 24) image)) (entry_of masks base slots q) (faces_at image starts ent at z) z) w.dim
      ∙ body_right (get_or es i no_ent).dim refl in
      let remote = ap (λ (m : ℕ). map (entry_from slots b m) (others m q)) w.mask
      ∙ map_same (entry_from slots b (mask_at ps es i)) (λ p. slot_by ps es p i) (others (mask_at ps es i) q) w.remotes in
      λ j. record {
        number = w.number j;
        dim = w.dim j;
        owner = owner j;
        kind = w.kind j;
        pad = 0;
        mask = w.mask j;
        value = w.value j;
        body = body j;
        slots = remote j;
      }

-- all rows of a part, where n entities that `members` lists from `first` on are those that reside in it
pub rows_right : (ps : Parts) (es : List Entity) (image offs starts ord ent counts masks base slots members : List ℕ) (first n q : ℕ)
    → take n (drop first members) ≡ keep (λ i. has (mask_at ps es i) q) (up_to (length es))
    → ((i : ℕ) → i < length es → T (has (mask_at ps es i) q) → Right ps es image offs starts ord ent masks base slots q i)
    → new_rows image offs starts ord ent counts masks base slots members first n q
    ≡ map (row_by ps es (λ r. get_or counts r 0) q) (keep (λ i. has (mask_at ps es i) q) (up_to (length es)))
unfolding new_rows
rows_right ps es image offs starts ord ent counts masks base slots members first n q e w =
    let row = new_row image offs starts ord ent counts masks base slots q in
    let on : ℕ → Bool = λ i. has (mask_at ps es i) q in
    ap (map row) e
    ∙ map_same row (row_by ps es (λ r. get_or counts r 0) q) (keep on (up_to (length es)))
    (λ i j. let v = keep_in on (up_to (length es)) i j in row_right ps es image offs starts ord ent counts masks base slots q i (w i (up_to_in (length es) i v.0) v.1))
