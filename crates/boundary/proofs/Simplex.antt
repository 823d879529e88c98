-- Faces that bound one simplex have the vertices that CornersOf tells: then these ascend, and for each of them the others are a face.
-- Assumes nothing.
use Prim.Native.Nat.{ℕ, zero, suc, ◌+◌, ◌≤◌, ◌<◌}
use native.Mathlib.Nat.{not-suc-le-zero, le_of_suc-le-suc, le_of_lt, lt_of_not-le}
use native.Mathlib.Decide.{dec_le}
use native.Mathlib.Numerals.{add-one}
use native.Mathlib.Omega.{arith}
use mathlib.Core.Path.{◌≡◌, sym, ap, ◌∙◌, subst}
use mathlib.Core.Bool.{true, false, true≢false}
use mathlib.Core.List.{List, [], ◌∷◌}
use lib.ListN.{length, get_or}
use lib.Dec.{T}
use Rattle.std.specs.Prelude.{remove}
use Rattle.std.proofs.lemmas.List.{ext_get_or}
use Rattle.std.proofs.lemmas.List.Edits.{get_or-remove_below, get_or-remove_above}
use Rattle.laws.specs.Lists.{In, ascending, unions}
use Rattle.laws.proofs.Tests.{T_true, true_T, no_T}
use Rattle.laws.proofs.Members.{in_get_or, get_or_in}
use Rattle.laws.proofs.Ascending.{asc_tail, asc_get_or, head_out}
use Rattle.boundary.specs.Boundary.{others, faces_fit, LowestAt, HighestAt, CornersOf}
use Rattle.boundary.proofs.Fits.{Fits, fit_each, fit_faces, fit_unions, faces_fit_lem, tail_out}

-- those that ascend without one are those without its place
others_at : (vs : List ℕ) → T (ascending vs) → (k : ℕ) → k < length vs → others (get_or vs k 0) vs ≡ remove vs k
others_at [] t k h = absurd (not-suc-le-zero h)
others_at (x ∷ xs) t zero h = head_out x xs t
others_at (x ∷ xs) t (suc k) h =
    tail_out x xs (get_or xs k 0) t (get_or_in xs k 0 (le_of_suc-le-suc h)) ∙ ap (λ (l : List ℕ). x ∷ l) (others_at xs (asc_tail x xs t) k (le_of_suc-le-suc h))

-- ---- n faces of m vertices that fit the vertices us

module _ (us : List ℕ) (fs : List (List ℕ)) (n m : ℕ) (e : n ≡ m + 1) (some : 0 < m) (long : length us ≡ n) (all : length fs ≡ n) (fit : Fits us fs) where
  -- each face is the vertices but one
  one_out : (f : List ℕ) → In f fs → (k : ℕ) × (k < n) × (f ≡ remove us k)
  one_out f i =
      let w = fit_each fit f i in
      let p = in_get_or us w.0 0 w.1 in
      (p.0, omega (arith, p.1, long), w.2 ∙ ap (λ (v : ℕ). others v us) p.2 ∙ others_at us fit.ascends p.0 p.1)

  -- and the vertices but one are a face
  pub face_without : (k : ℕ) → k < n → In (remove us k) fs
  face_without k h =
      subst (λ (l : List ℕ). In l fs) (others_at us fit.ascends k (omega (arith, long))) (fit.faced (get_or us k 0) (get_or_in us k 0 (omega (arith, long))))

  place_of : (k : ℕ) → k < n → (i : ℕ) × (i < n) × (remove us k ≡ get_or fs i [])
  place_of k h = let p = in_get_or fs (remove us k) [] (face_without k h) in (p.0, omega (arith, p.1, all), p.2)

  rises : (j : ℕ) → j < m → get_or us j 0 ≤ get_or us (j + 1) 0
  rises j h = le_of_lt (asc_get_or us fit.ascends j (j + 1) (omega arith) (omega (arith, long)))

  -- at place j a face has the vertex j or the next
  between : (i : ℕ) → i < n → (j : ℕ) → j < m → (get_or us j 0 ≤ get_or (get_or fs i []) j 0) × (get_or (get_or fs i []) j 0 ≤ get_or us (j + 1) 0)
  between i h j g =
      let w = one_out (get_or fs i []) (get_or_in fs i [] (omega (arith, all))) in
      let q : get_or (get_or fs i []) j 0 ≡ get_or (remove us w.0) j 0 = ap (λ (l : List ℕ). get_or l j 0) w.2 in
      let r = rises j g in
      elim (dec_le w.0 j) [
        | yes l ↦ (let a = get_or-remove_above us w.0 0 j l (omega (arith, w.1, long)) in (omega (arith, q, a, r), omega (arith, q, a)))
        | no l ↦ (let a = get_or-remove_below us w.0 0 j (lt_of_not-le l) (omega (arith, w.1, long)) in (omega (arith, q, a), omega (arith, q, a, r)))
      ]

  lowest_is : (v : ℕ) → LowestAt fs n v → v ≡ get_or us 0 0
  lowest_is v l =
      let p = place_of m (omega arith) in
      let q : get_or (get_or fs p.0 []) 0 0 ≡ get_or us 0 0 = ap (λ (l : List ℕ). get_or l 0 0) (sym p.2) ∙ get_or-remove_below us m 0 0 some (omega (arith, long)) in
      omega (arith, l.below p.0 p.1, q, l.greatest (get_or us 0 0) (λ i h. (between i h 0 some).0))

  highest_is : (k v : ℕ) → k < m → HighestAt fs n k v → v ≡ get_or us (k + 1) 0
  highest_is k v h l =
      let p = place_of 0 (omega arith) in
      let q : get_or (get_or fs p.0 []) k 0 ≡ get_or us (k + 1) 0 = ap (λ (l : List ℕ). get_or l k 0) (sym p.2) ∙ get_or-remove_above us 0 0 k (omega arith) (omega (arith, long)) in
      omega (arith, l.above p.0 p.1, q, l.least (get_or us (k + 1) 0) (λ i g. (between i g k h).1))

  pub corners_are : (vs : List ℕ) → length vs ≡ n → CornersOf fs n m vs → vs ≡ us
  corners_are vs l c = ext_get_or 0 vs us (l ∙ sym long) at
    where
      at : (i : ℕ) → i < length vs → get_or vs i 0 ≡ get_or us i 0
      at zero h = lowest_is (get_or vs 0 0) c.first
      at (suc k) h =
          let g : k < m = omega (arith, h, l) in
          rw add-one at (highest_is k (get_or vs (k + 1) 0) g (c.others k g))

-- ---- what is tested of the corners vs

module _ (fs : List (List ℕ)) (n m : ℕ) (e : n ≡ m + 1) (some : 0 < m) (all : length fs ≡ n) (vs : List ℕ) (long : length vs ≡ n) where
  pub they_fit : T (ascending vs) → ((k : ℕ) → k < n → In (remove vs k) fs) → T (faces_fit n fs)
  they_fit t h =
      subst (λ (k : ℕ). T (faces_fit k fs)) long
      (faces_fit_lem vs fs (omega (arith, long)) (record {
        ascends = t;
        few = omega (arith, long, all);
        faced = λ v i.
            let p = in_get_or vs v 0 i in
            subst (λ (l : List ℕ). In l fs) (sym (ap (λ (u : ℕ). others u vs) p.2 ∙ others_at vs t p.0 p.1)) (h p.0 (omega (arith, p.1, long)));
      }))

  module _ (c : CornersOf fs n m vs) (t : T (faces_fit n fs)) where
    fitted : Fits vs fs
    fitted =
        let w = fit_faces n fs (omega (arith, all)) t in
        subst (λ (l : List ℕ). Fits l fs) (sym (corners_are (unions fs) fs n m e some w.0 all w.1 vs long c)) w.1

    pub they_ascend : T (ascending vs)
    they_ascend = fitted.ascends

    pub each_there : (k : ℕ) → k < n → In (remove vs k) fs
    each_there = face_without vs fs n m e some long all fitted

    -- the vertices of the faces are the corners
    pub unions_are : unions fs ≡ vs
    unions_are = fit_unions vs fs (omega (arith, long)) fitted

  -- what the tests tell
  pub all_there : ascending vs ≡ true → ((k : ℕ) → k < n → In (remove vs k) fs) → true ≡ faces_fit n fs
  all_there t h = sym (T_true (faces_fit n fs) (they_fit (true_T (ascending vs) t) h))

  module _ (c : CornersOf fs n m vs) where
    pub not_ascending : ascending vs ≡ false → false ≡ faces_fit n fs
    not_ascending f = sym (no_T (faces_fit n fs) (λ t. true≢false (sym (T_true (ascending vs) (they_ascend c t)) ∙ f)))

    pub not_there : (k : ℕ) → k < n → (In (remove vs k) fs → ⊥) → false ≡ faces_fit n fs
    not_there k h f = sym (no_T (faces_fit n fs) (λ t. f (each_there c t k h)))
