-- Tests of lists in the words of the library and in those of the laws. Assumes nothing.
use Prim.Native.Nat.{ℕ, suc, ◌+◌, ◌<◌}
use native.Mathlib.Numerals.{add-one}
use native.Mathlib.Omega.{arith}
use mathlib.Core.Path.{◌≡◌, refl, sym, ap, ◌∙◌, subst}
use mathlib.Core.Bool.{Bool, true, false, ◌&&◌, ◌||◌, true≢false}
use mathlib.Core.Logic.{inl, inr}
use mathlib.Core.List.{List, [], ◌∷◌, map}
use lib.ListN.{length, get_or}
use lib.Dec.{eqb, ltb, eqb→eq, ltb→lt, lt→ltb}
use Rattle.std.specs.Prelude.{nat_eq}
use Rattle.std.specs.Bool.{MatchBool}
use Rattle.std.specs.List.{list_any, AllWithin, HoldsAt, IsAllAdjacentAnswer}
use Rattle.std.specs.Cmp.Lexicographic.{pointwise, bytes_decides}
use Rattle.laws.specs.Lists.{In, every, some?, pairwise, ascending, member}
use Rattle.laws.proofs.Tests.{iff_eq, T_true, true_T, no_T, eq-eqb}
use Rattle.laws.proofs.Members.{every_in, in_every, in_get_or, get_or_in}
use Rattle.laws.proofs.Ascending.{asc_adjacent, asc_get_or}
use Rattle.boundary.specs.Boundary.{shares}

-- ---- `contains`

list_in : (x : List ℕ) (fs : List (List ℕ)) → list_any (λ y. pointwise nat_eq y x) fs ≡ true → In x fs
list_in x [] e = absurd (true≢false (sym e))
list_in x (y ∷ ys) e = go (pointwise nat_eq y x) (bytes_decides y x).0 (list_in x ys) e
  where
    go : (b : Bool) → (b ≡ true → y ≡ x) → (list_any (λ y. pointwise nat_eq y x) ys ≡ true → In x ys) → (b || list_any (λ y. pointwise nat_eq y x) ys) ≡ true → In x (y ∷ ys)
    go true f later e = inl (sym (f refl))
    go false f later e = inr (later e)

in_list : (x : List ℕ) (fs : List (List ℕ)) → In x fs → list_any (λ y. pointwise nat_eq y x) fs ≡ true
in_list x [] i = absurd i
in_list x (y ∷ ys) (inl e) = ap (λ (b : Bool). b || list_any (λ y. pointwise nat_eq y x) ys) ((bytes_decides y x).1 (sym e))
in_list x (y ∷ ys) (inr i) = go (pointwise nat_eq y x) (in_list x ys i)
  where
    go : (b : Bool) → list_any (λ y. pointwise nat_eq y x) ys ≡ true → (b || list_any (λ y. pointwise nat_eq y x) ys) ≡ true
    go true h = refl
    go false h = h

pub present : (x y : List ℕ) (fs : List (List ℕ)) {r : Bool} → r ≡ list_any (λ z. pointwise nat_eq z x) fs → x ≡ y → r ≡ true → In y fs
present x y fs e q t = subst (λ (l : List ℕ). In l fs) q (list_in x fs (sym e ∙ t))

pub absent : (x y : List ℕ) (fs : List (List ℕ)) {r : Bool} → r ≡ list_any (λ z. pointwise nat_eq z x) fs → x ≡ y → r ≡ false → In y fs → ⊥
absent x y fs e q f i = true≢false (sym (in_list x fs (subst (λ (l : List ℕ). In l fs) (sym q) i)) ∙ sym e ∙ f)

member_any : (e : ℕ) (gs : List ℕ) → list_any (λ y. nat_eq y e) gs ≡ member e gs
unfolding member some?
member_any e [] = refl
member_any e (g ∷ gs) =
    let turned : eqb g e ≡ eqb e g = iff_eq (eqb g e) (eqb e g) (λ t. eq-eqb e g (sym (eqb→eq g e t))) (λ t. eq-eqb g e (sym (eqb→eq e g t))) in
    λ i. turned i || member_any e gs i

-- ---- lists of three and of four

or_three : (x y z : Bool) → (x || y || z) ≡ (x || (y || (z || false)))
or_three true y z = refl
or_three false true z = refl
or_three false false true = refl
or_three false false false = refl

-- six tests of two by two
and_six : (u v w x y z : Bool) → (u && v && w && x && y && z) ≡ ((u && (v && (w && true))) && ((x && (y && true)) && ((z && true) && (true && true))))
and_six true true true true true true = refl
and_six true true true true true false = refl
and_six true true true true false z = refl
and_six true true true false y z = refl
and_six true true false x y z = refl
and_six true false w x y z = refl
and_six false v w x y z = refl

three_items : (l : List ℕ) → length l ≡ 3 → l ≡ get_or l 0 0 ∷ get_or l 1 0 ∷ get_or l 2 0 ∷ []
three_items [] h = absurd (omega (arith, h))
three_items (x ∷ []) h = absurd (omega (arith, h))
three_items (x ∷ y ∷ []) h = absurd (omega (arith, h))
three_items (x ∷ y ∷ z ∷ []) h = refl
three_items (x ∷ y ∷ z ∷ w ∷ l) h = absurd (omega (arith, h))

four_items : {A : Type 0} (l : List A) (d : A) → length l ≡ 4 → l ≡ get_or l 0 d ∷ get_or l 1 d ∷ get_or l 2 d ∷ get_or l 3 d ∷ []
four_items [] d h = absurd (omega (arith, h))
four_items (x ∷ []) d h = absurd (omega (arith, h))
four_items (x ∷ y ∷ []) d h = absurd (omega (arith, h))
four_items (x ∷ y ∷ z ∷ []) d h = absurd (omega (arith, h))
four_items (x ∷ y ∷ z ∷ w ∷ []) d h = refl
four_items (x ∷ y ∷ z ∷ w ∷ v ∷ l) d h = absurd (omega (arith, h))

pub shares-three : (p q : List ℕ) → length p ≡ 3 → {f g h : Bool} → f ≡ list_any (λ y. nat_eq y (get_or p 0 0)) q → g ≡ list_any (λ y. nat_eq y (get_or p 1 0)) q
    → h ≡ list_any (λ y. nat_eq y (get_or p 2 0)) q → (f || g || h) ≡ shares p q
unfolding shares some?
shares-three p q n {f} {g} {h} ef eg eh =
    let a = get_or p 0 0 in
    let b = get_or p 1 0 in
    let c = get_or p 2 0 in
    (λ i. (ef ∙ member_any a q) i || (eg ∙ member_any b q) i || (eh ∙ member_any c q) i) ∙ or_three (member a q) (member b q) (member c q)
    ∙ ap (λ (l : List ℕ). shares l q) (sym (three_items p n))

pub shares-four : (fs : List (List ℕ)) → length fs ≡ 4 → (u v w x y z : Bool) → (let at : ℕ → List ℕ = λ i. get_or fs i [] in
    u ≡ shares (at 0) (at 1) → v ≡ shares (at 0) (at 2) → w ≡ shares (at 0) (at 3) → x ≡ shares (at 1) (at 2) → y ≡ shares (at 1) (at 3) → z ≡ shares (at 2) (at 3)
    → (u && v && w && x && y && z) ≡ pairwise shares fs)
unfolding pairwise every
shares-four fs n u v w x y z eu ev ew ex ey ez =
    let at : ℕ → List ℕ = λ i. get_or fs i [] in
    (λ i. eu i && ev i && ew i && ex i && ey i && ez i)
    ∙ and_six (shares (at 0) (at 1)) (shares (at 0) (at 2)) (shares (at 0) (at 3)) (shares (at 1) (at 2)) (shares (at 1) (at 3)) (shares (at 2) (at 3))
    ∙ ap (pairwise shares) (sym (four_items fs [] n))

-- ---- `is_sorted_by` and `all`

pub sorted_ascends : (xs : List ℕ) (r : Bool) → IsAllAdjacentAnswer (λ x y b. b ≡ ltb x y) xs r → r ≡ ascending xs
sorted_ascends xs true h = sym (T_true (ascending xs) (asc_adjacent xs up))
  where
    up : (s : ℕ) → suc s < length xs → get_or xs s 0 < get_or xs (suc s) 0
    up s l =
        let e : true ≡ ltb (get_or xs s 0) (get_or xs (s + 1) 0) = h s 0 (omega (arith, l)) in
        ltb→lt (get_or xs s 0) (get_or xs (suc s) 0) (true_T (ltb (get_or xs s 0) (get_or xs (suc s) 0)) (sym (rw add-one at e)))
sorted_ascends xs false h =
    sym (no_T (ascending xs) (λ t.
    true≢false (sym (h.2 0 ∙ T_true (ltb (get_or xs h.0 0) (get_or xs (h.0 + 1) 0)) (lt→ltb (get_or xs h.0 0) (get_or xs (h.0 + 1) 0) (asc_get_or xs t h.0 (h.0 + 1) (omega arith) h.1))))))

pub every_cases : (f : ℕ → Bool) (xs : List ℕ) (r : Bool) → MatchBool r (AllWithin (λ x. f x ≡ true) xs 0 (length xs)) ((k : ℕ) × (k < length xs) × HoldsAt (λ x. f x ≡ false) xs k) → r ≡ every f xs
every_cases f xs true h =
    sym (T_true (every f xs) (in_every f xs (λ x i. let p = in_get_or xs x 0 i in true_T (f x) (ap f p.2 ∙ h p.0 0 (omega arith) p.1))))
every_cases f xs false h =
    sym (no_T (every f xs) (λ t. true≢false (sym (T_true (f (get_or xs h.0 0)) (every_in f xs t (get_or xs h.0 0) (get_or_in xs h.0 0 h.1))) ∙ h.2 0)))

pub mapped_three : (f : ℕ → List ℕ) (l : List ℕ) → length l ≡ 3 → {p q r : List ℕ} → f (get_or l 0 0) ≡ p → f (get_or l 1 0) ≡ q → f (get_or l 2 0) ≡ r → map f l ≡ p ∷ q ∷ r ∷ []
mapped_three f l n e g h = ap (map f) (three_items l n) ∙ (λ i. e i ∷ g i ∷ h i ∷ [])

pub mapped_four : (f : ℕ → List ℕ) (l : List ℕ) → length l ≡ 4 → {p q r s : List ℕ} → f (get_or l 0 0) ≡ p → f (get_or l 1 0) ≡ q → f (get_or l 2 0) ≡ r → f (get_or l 3 0) ≡ s
    → map f l ≡ p ∷ q ∷ r ∷ s ∷ []
mapped_four f l n e g h k = ap (map f) (four_items l 0 n) ∙ (λ i. e i ∷ g i ∷ h i ∷ k i ∷ [])
