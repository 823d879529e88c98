-- The tables of slots: entity j has an entry for each part of its residence set, in ascending order, from its base on.
-- Assumes nothing.
use Rattle.std.specs.Prelude.{ℕ, zero, suc, ◌+◌, ◌-◌, ◌*◌, ◌≤◌, ◌<◌, ◌≡◌, true, List, ◌++◌, map, length, get_or, replicate}
use Rattle.laws.specs.Lists.{flat}
use Rattle.field.specs.Bytes.{bytes_of}
use Rattle.part_set.specs.Masks.{has, count, rank_of, others}

-- the entry of part q from `base` on, for an entity that resides in the parts of m
abbrev pub entry_from : List ℕ → ℕ → ℕ → ℕ → ℕ
entry_from slots base m q = get_or slots (base + rank_of m q) 0

-- the entry of part q for entity j
abbrev pub entry_of : List ℕ → List ℕ → List ℕ → ℕ → ℕ → ℕ
entry_of masks base slots q j = entry_from slots (get_or base j 0) (get_or masks j 0) q

-- entity j has an entry for part q
pub record Entered (masks base slots : List ℕ) (q j : ℕ) : Type 0 where
  pub masked : j < length masks
  pub based : j < length base
  pub there : get_or base j 0 + rank_of (get_or masks j 0) q < length slots

-- ---- the remote slots of a row

unfoldable pub remote_slots : List ℕ → ℕ → ℕ → ℕ → List ℕ
remote_slots slots base m q = map (entry_from slots base m) (others m q)

pub record RemoteRoom (slots : List ℕ) (base m q : ℕ) (out : List ℕ) (at : ℕ) : Type 0 where
  pub part : q < 64
  pub own : has m q ≡ true
  pub there : base + count m ≤ length slots
  pub room : at + 4 * (count m - 1) ≤ length out

-- ---- the body of a row

-- what an entity of dimension d has at 24: its coordinates, or the entries of its faces and zeros
unfoldable pub body_from : List ℕ → (ℕ → ℕ) → List ℕ → ℕ → List ℕ
body_from coords entry faces zero = coords
body_from coords entry faces (suc d) = flat (map (bytes_of 4) (map entry faces)) ++ replicate (24 - 4 * (d + 2)) 0

pub record FacesRoom (faces : List ℕ) (first n : ℕ) (masks base slots : List ℕ) (q : ℕ) (out : List ℕ) (at : ℕ) : Type 0 where
  pub part : q < 64
  pub listed : first + n ≤ length faces
  pub entered : (k : ℕ) → k < n → Entered masks base slots q (get_or faces (first + k) 0)
  pub room : at + 4 * n ≤ length out

pub record BodyRoom (image : List ℕ) (from dim : ℕ) (faces : List ℕ) (first : ℕ) (masks base slots : List ℕ) (q : ℕ) (out : List ℕ) (at : ℕ) : Type 0 where
  pub part : q < 64
  pub low : dim ≤ 3
  pub source : from + 24 ≤ length image
  pub listed : first + (dim + 1) ≤ length faces
  pub entered : 0 < dim → (k : ℕ) → k < dim + 1 → Entered masks base slots q (get_or faces (first + k) 0)
  pub room : at + 24 ≤ length out
