-- Rule 11, in plain propositions: the rows above an entity, and the residence set with and without such rows.
-- Assumes nothing.
use Prim.Native.Nat.{ℕ, ◌<◌}
use mathlib.Core.Path.{◌≡◌, refl, subst}
use mathlib.Core.Logic.{inl}
use mathlib.Core.List.{List, [], ◌∷◌}
use lib.ListN.{length, get_or}
use lib.Dec.{T, eqb→eq}
use Rattle.laws.specs.Lists.{In, some?, keep}
use Rattle.part_set.specs.Masks.{has, count, mask_of}
use Rattle.paper.specs.Image.{Row, Set, no_row}
use Rattle.paper.specs.Mesh.{bounds, ent_of}
use Rattle.paper.specs.Sound.{rows_above, residence}
use Rattle.laws.proofs.Tests.{eq-eqb}
use Rattle.laws.proofs.Members.{get_or_in, in_get_or, keep_in, in_keep, part_lt, flat_map_in, in_flat_map}
use Rattle.demands.proofs.Sound.Rows.{ent, row}

-- ---- the rows above an entity

pub above_in : (S : Set) (k : ℕ) (a : Row) → In a (rows_above S k) → (q : ℕ) × (t : ℕ) × (t < length (get_or S q [])) × (a ≡ row S q t) × T (bounds k (ent S q t))
unfolding rows_above
above_in S k a i =
    let w = flat_map_in (λ rows. keep (λ r. bounds k (ent_of rows r)) rows) S a i in
    let v = in_get_or S w.0 [] w.1 in
    let j = keep_in (λ r. bounds k (ent_of (get_or S v.0 []) r)) (get_or S v.0 []) a (subst (λ (rows : List Row). In a (keep (λ r. bounds k (ent_of rows r)) rows)) v.2 w.2) in
    let g = in_get_or (get_or S v.0 []) a no_row j.0 in
    (v.0, g.0, g.1, g.2, subst (λ (r : Row). T (bounds k (ent_of (get_or S v.0 []) r))) g.2 j.1)

pub in_above : (S : Set) (k q t : ℕ) → t < length (get_or S q []) → T (bounds k (ent S q t)) → In (row S q t) (rows_above S k)
unfolding rows_above
in_above S k q t h b =
    let rows = get_or S q [] in
    let i = get_or_in rows t no_row h in
    in_flat_map (λ rows. keep (λ r. bounds k (ent_of rows r)) rows) S rows (get_or rows t no_row) (get_or_in S q [] (part_lt S q (get_or rows t no_row) i))
    (in_keep (λ r. bounds k (ent_of rows r)) rows (get_or rows t no_row) i b)

-- ---- the test, taken apart and made

pub res_some : (n m : ℕ) (rs : List Row) (a : Row) → In a rs → T (residence n m rs) → m ≡ mask_of n (λ q. some? (λ a. has a.mask q) rs)
unfolding residence
res_some n m [] a i t = absurd i
res_some n m (r ∷ rs) a i t = eqb→eq m (mask_of n (λ q. some? (λ a. has a.mask q) (r ∷ rs))) t

pub some_res : (n m : ℕ) (rs : List Row) (a : Row) → In a rs → m ≡ mask_of n (λ q. some? (λ a. has a.mask q) rs) → T (residence n m rs)
unfolding residence
some_res n m [] a i e = absurd i
some_res n m (r ∷ rs) a i e = eq-eqb m (mask_of n (λ q. some? (λ a. has a.mask q) (r ∷ rs))) e

pub res_none : (n m : ℕ) (rs : List Row) → ((a : Row) → In a rs → ⊥) → T (residence n m rs) → count m ≡ 1
unfolding residence
res_none n m [] h t = eqb→eq (count m) 1 t
res_none n m (r ∷ rs) h t = absurd (h r (inl refl))

pub none_res : (n m : ℕ) (rs : List Row) → ((a : Row) → In a rs → ⊥) → count m ≡ 1 → T (residence n m rs)
unfolding residence
none_res n m [] h e = eq-eqb (count m) 1 e
none_res n m (r ∷ rs) h e = absurd (h r (inl refl))
