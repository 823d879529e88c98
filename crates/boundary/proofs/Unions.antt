-- The union of lists in ascending order is such a list, and has all their members. Assumes nothing.
use Prim.Native.Nat.{ℕ, ◌<◌}
use native.Mathlib.Omega.{arith}
use mathlib.Core.Path.{◌≡◌, refl, ap, subst}
use mathlib.Core.Bool.{Bool, true, false, not, cond}
use mathlib.Core.Logic.{◌⊎◌, inl, inr}
use mathlib.Core.List.{List, [], ◌∷◌}
use lib.Dec.{T, ltb, eqb, ltb→lt, nltb→le, eqb→eq, T_not}
use Rattle.laws.specs.Lists.{In, ascending, insert, merge, unions}
use Rattle.laws.proofs.Tests.{true_T, eq-eqb}
use Rattle.laws.proofs.Ascending.{asc_nil, asc_cons, asc_head, asc_tail}
use Rattle.laws.proofs.Increasing.{insert_in}

-- what is put in is there, and nothing is lost
in_insert : (x : ℕ) (ys : List ℕ) (q : ℕ) → (q ≡ x) ⊎ In q ys → In q (insert x ys)
unfolding insert
in_insert x [] q (inl e) = inl e
in_insert x [] q (inr i) = absurd i
in_insert x (y ∷ ys) q i = go (ltb x y) (eqb x y) (eqb→eq x y) i (in_insert x ys q)
  where
    go : (b c : Bool) → (T c → x ≡ y) → (q ≡ x) ⊎ In q (y ∷ ys) → ((q ≡ x) ⊎ In q ys → In q (insert x ys)) → In q (cond b (x ∷ y ∷ ys) (cond c (y ∷ ys) (y ∷ insert x ys)))
    go true c f (inl e) rest = inl e
    go true c f (inr j) rest = inr j
    go false true f (inl e) rest = let h = f tt in inl (omega arith)
    go false true f (inr j) rest = j
    go false false f (inl e) rest = inr (rest (inl e))
    go false false f (inr (inl e)) rest = inl e
    go false false f (inr (inr j)) rest = inr (rest (inr j))

asc_insert : (x : ℕ) (ys : List ℕ) → T (ascending ys) → T (ascending (insert x ys))
unfolding insert
asc_insert x [] t = asc_cons x [] (λ q i. absurd i) asc_nil
asc_insert x (y ∷ ys) t = go (ltb x y) (eqb x y) refl refl (asc_insert x ys (asc_tail y ys t))
  where
    first : x < y → (q : ℕ) → In q (y ∷ ys) → x < q
    first h q (inl e) = omega arith
    first h q (inr i) = omega (arith, asc_head y ys t q i)

    later : y < x → (q : ℕ) → (q ≡ x) ⊎ In q ys → y < q
    later h q (inl e) = omega arith
    later h q (inr i) = asc_head y ys t q i

    go : (b c : Bool) → ltb x y ≡ b → eqb x y ≡ c → T (ascending (insert x ys)) → T (ascending (cond b (x ∷ y ∷ ys) (cond c (y ∷ ys) (y ∷ insert x ys))))
    go true c e f s = asc_cons x (y ∷ ys) (first (ltb→lt x y (true_T (ltb x y) e))) t
    go false true e f s = t
    go false false e f s =
        let le = nltb→le x y (true_T (not (ltb x y)) (ap not e)) in
        let ne : x ≡ y → ⊥ = λ z. T_not (eqb x y) (true_T (not (eqb x y)) (ap not f)) (eq-eqb x y z) in
        asc_cons y (insert x ys) (λ q i. later (omega (arith, le, ne)) q (insert_in x ys q i)) s

asc_merge : (xs ys : List ℕ) → T (ascending ys) → T (ascending (merge xs ys))
unfolding merge
asc_merge [] ys t = t
asc_merge (x ∷ xs) ys t = asc_insert x (merge xs ys) (asc_merge xs ys t)

pub asc_unions : (xss : List (List ℕ)) → T (ascending (unions xss))
unfolding unions
asc_unions [] = asc_nil
asc_unions (xs ∷ xss) = asc_merge xs (unions xss) (asc_unions xss)

in_merge : (xs ys : List ℕ) (q : ℕ) → In q xs ⊎ In q ys → In q (merge xs ys)
unfolding merge
in_merge [] ys q (inl i) = absurd i
in_merge [] ys q (inr i) = i
in_merge (x ∷ xs) ys q (inl (inl e)) = in_insert x (merge xs ys) q (inl e)
in_merge (x ∷ xs) ys q (inl (inr i)) = in_insert x (merge xs ys) q (inr (in_merge xs ys q (inl i)))
in_merge (x ∷ xs) ys q (inr i) = in_insert x (merge xs ys) q (inr (in_merge xs ys q (inr i)))

pub in_unions : (xss : List (List ℕ)) (xs : List ℕ) (q : ℕ) → In xs xss → In q xs → In q (unions xss)
unfolding unions
in_unions [] xs q i j = absurd i
in_unions (ys ∷ xss) xs q (inl e) j = in_merge ys (unions xss) q (inl (subst (λ (l : List ℕ). In q l) e j))
in_unions (ys ∷ xss) xs q (inr i) j = in_merge ys (unions xss) q (inr (in_unions xss xs q i j))
