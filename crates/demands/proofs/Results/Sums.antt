-- A sum part by part, where each entity of a list is counted in one part and no more, is the sum over the list.
-- Assumes nothing.
use Prim.Native.Nat.{ℕ, zero, suc, ◌+◌}
use native.Mathlib.Omega.{arith}
use mathlib.Core.Path.{◌≡◌, refl, sym, ap, ◌∙◌}
use mathlib.Core.Bool.{Bool, true, false, cond}
use mathlib.Core.Logic.{◌⊎◌, inl, inr}
use mathlib.Core.List.{List, [], ◌∷◌, ◌++◌, map}
use lib.ListN.{get_or}
use lib.Dec.{T, ltb, eqb, eqb→eq}
use Rattle.laws.specs.Lists.{In, keep, ascending}
use Rattle.paper.specs.Mesh.{Entity, Parts, name, insert_ent, sort_ents}
use Rattle.demands.specs.Sums.{sum_of, sum_parts}
use Rattle.laws.proofs.Members.{keep_in, in_keep, in_left, in_right, in_either}
use Rattle.laws.proofs.Keyed.{head_below, tail_ascends, keep-ascends, ascending_ext}
use Rattle.demands.proofs.Entities.Names.{Uniq}
use Rattle.demands.proofs.Entities.Sorted.{sort_in, in_sort, sort_ascends}

-- ---- what is counted, in one list

pick : (ℕ → Entity → Bool) → Parts → List Entity
pick t [] = []
pick t (es ∷ ps) = keep (t 0) es ++ pick (λ p. t (suc p)) ps

pick_in : (t : ℕ → Entity → Bool) (ps : Parts) (e : Entity) → In e (pick t ps) → (p : ℕ) × In e (get_or ps p []) × T (t p e)
unfolding pick
pick_in t [] e i = absurd i
pick_in t (es ∷ ps) e i = go (in_either e (keep (t 0) es) (pick (λ p. t (suc p)) ps) i) (pick_in (λ p. t (suc p)) ps e)
  where
    go : In e (keep (t 0) es) ⊎ In e (pick (λ p. t (suc p)) ps) → (In e (pick (λ p. t (suc p)) ps) → (p : ℕ) × In e (get_or ps p []) × T (t (suc p) e))
        → (p : ℕ) × In e (get_or (es ∷ ps) p []) × T (t p e)
    go (inl j) rest = let w = keep_in (t 0) es e j in (0, w.0, w.1)
    go (inr j) rest = let w = rest j in (suc w.0, w.1, w.2)

in_pick : (t : ℕ → Entity → Bool) (ps : Parts) (p : ℕ) (e : Entity) → In e (get_or ps p []) → T (t p e) → In e (pick t ps)
unfolding pick
in_pick t [] p e i s = absurd i
in_pick t (es ∷ ps) zero e i s = in_left e (keep (t 0) es) (pick (λ p. t (suc p)) ps) (in_keep (t 0) es e i s)
in_pick t (es ∷ ps) (suc p) e i s = in_right e (keep (t 0) es) (pick (λ p. t (suc p)) ps) (in_pick (λ p. t (suc p)) ps p e i s)

-- ---- lists in which no name stands twice

abbrev Apart : List Entity → Type 0
Apart [] = Unit {0}
Apart (e ∷ es) = ((f : Entity) → In f es → name e ≡ name f → ⊥) × Apart es

ascends_apart : (es : List Entity) → T (ascending (map name es)) → Apart es
ascends_apart [] t = tt
ascends_apart (e ∷ es) t = (λ f i q. omega (arith, head_below name e es t f i), ascends_apart es (tail_ascends name e es t))

append_apart : (es fs : List Entity) → Apart es → Apart fs → ((e f : Entity) → In e es → In f fs → name e ≡ name f → ⊥) → Apart (es ++ fs)
append_apart [] fs a b h = b
append_apart (e ∷ es) fs a b h =
    (λ f i q. go f q (in_either f es fs i), append_apart es fs a.1 b (λ x f i j q. h x f (inr i) j q))
  where
    go : (f : Entity) → name e ≡ name f → In f es ⊎ In f fs → ⊥
    go f q (inl i) = a.0 f i q
    go f q (inr j) = h e f (inl refl) j q

pick_apart : (t : ℕ → Entity → Bool) (ps : Parts) → ((p : ℕ) → T (ascending (map name (get_or ps p []))))
    → ((p q : ℕ) (e f : Entity) → In e (get_or ps p []) → T (t p e) → In f (get_or ps q []) → T (t q f) → name e ≡ name f → p ≡ q) → Apart (pick t ps)
unfolding pick
pick_apart t [] asc once = tt
pick_apart t (es ∷ ps) asc once =
    append_apart (keep (t 0) es) (pick (λ p. t (suc p)) ps) (ascends_apart (keep (t 0) es) (keep-ascends name (t 0) es (asc 0)))
    (pick_apart (λ p. t (suc p)) ps (λ p. asc (suc p)) (λ p q e f i s j r z. omega (arith, once (suc p) (suc q) e f i s j r z))) (λ e f i j z.
    let a = keep_in (t 0) es e i in
    let b = pick_in (λ p. t (suc p)) ps f j in
    omega (arith, once 0 (suc b.0) e f a.0 a.1 b.1 b.2 z))

-- ---- sums

module _ (w : Entity → ℕ) where
  sum_append : (es fs : List Entity) → sum_of w (es ++ fs) ≡ sum_of w es + sum_of w fs
  unfolding sum_of
  sum_append [] fs = omega arith
  sum_append (e ∷ es) fs = omega (arith, sum_append es fs)

  sum_pick : (t : ℕ → Entity → Bool) (ps : Parts) → sum_parts w t ps ≡ sum_of w (pick t ps)
  unfolding sum_parts pick sum_of
  sum_pick t [] = refl
  sum_pick t (es ∷ ps) = omega (arith, sum_pick (λ p. t (suc p)) ps, sum_append (keep (t 0) es) (pick (λ p. t (suc p)) ps))

  insert_sum : (e : Entity) (es : List Entity) → ((f : Entity) → In f es → name e ≡ name f → ⊥) → sum_of w (insert_ent e es) ≡ w e + sum_of w es
  unfolding insert_ent sum_of
  insert_sum e [] h = refl
  insert_sum e (f ∷ fs) h = go (ltb (name e) (name f)) (eqb (name e) (name f)) (λ s. h f (inl refl) (eqb→eq (name e) (name f) s)) (insert_sum e fs (λ g i. h g (inr i)))
    where
      go : (b c : Bool) → (T c → ⊥) → sum_of w (insert_ent e fs) ≡ w e + sum_of w fs
          → sum_of w (cond b (e ∷ f ∷ fs) (cond c (f ∷ fs) (f ∷ insert_ent e fs))) ≡ w e + (w f + sum_of w fs)
      go true c n rest = refl
      go false true n rest = absurd (n tt)
      go false false n rest = omega (arith, rest)

  sort_sum : (es : List Entity) → Apart es → sum_of w (sort_ents es) ≡ sum_of w es
  unfolding sort_ents sum_of
  sort_sum [] a = refl
  sort_sum (e ∷ es) a = insert_sum e (sort_ents es) (λ f i. a.0 f (sort_in es f i)) ∙ ap (λ (n : ℕ). w e + n) (sort_sum es a.1)

  -- each of es is counted in a part, nothing else is, and none in two
  pub sum_once : (t : ℕ → Entity → Bool) (ps : Parts) (es : List Entity) → T (ascending (map name es)) → ((p : ℕ) → T (ascending (map name (get_or ps p []))))
      → ((p q : ℕ) (e f : Entity) → In e (get_or ps p []) → In f (get_or ps q []) → name e ≡ name f → e ≡ f)
      → ((p q : ℕ) (e f : Entity) → In e (get_or ps p []) → T (t p e) → In f (get_or ps q []) → T (t q f) → name e ≡ name f → p ≡ q)
      → ((p : ℕ) (e : Entity) → In e (get_or ps p []) → T (t p e) → In e es) → ((e : Entity) → In e es → (p : ℕ) × In e (get_or ps p []) × T (t p e))
      → sum_parts w t ps ≡ sum_of w es
  sum_once t ps es asc parts agree once sound whole =
      let uniq : Uniq (pick t ps) = λ e f i j q. let a = pick_in t ps e i in let b = pick_in t ps f j in agree a.0 b.0 e f a.1 b.1 q in
      sum_pick t ps ∙ sym (sort_sum (pick t ps) (pick_apart t ps parts once))
      ∙ ap (sum_of w) (ascending_ext name (sort_ents (pick t ps)) es (sort_ascends (pick t ps)) asc
      (λ e i. let a = pick_in t ps e (sort_in (pick t ps) e i) in sound a.0 e a.1 a.2)
      (λ e i. let a = whole e i in in_sort (pick t ps) uniq e (in_pick t ps a.0 e a.1 a.2)))
