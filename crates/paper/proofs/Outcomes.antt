-- What an accepted `do` block says of its checks, and that it goes on where they pass; rules judged in turn, by rank.
-- Assumes nothing.
use Prim.Native.Nat.{ℕ, ◌<◌}
use mathlib.Core.Path.{◌≡◌, refl, sym, ap, ◌∙◌, subst}
use mathlib.Core.Bool.{Bool, true, false}
use mathlib.Core.Logic.{inl, inr}
use mathlib.Core.List.{List, [], ◌∷◌}
use mathlib.Core.Option.{Option, none, some}
use lib.Dec.{T, ltb, ltb→lt}
use Rattle.laws.specs.Lists.{In}
use Rattle.paper.specs.declared.Refusal.{Refusal}
use Rattle.paper.specs.Outcome.{Outcome, Place, refusal, place_of, refused, accepted, ◌>>=◌, ◌>>◌, must, get, in_turn}

abbrev Is_accepted : {A : Type 0} → Outcome A → Type 0
Is_accepted (refused k p) = ⊥
Is_accepted (accepted a) = Unit {0}

pub not_refused : {A : Type 0} {k : ℕ} {p : Place} {a : A} → refused k p ≡ accepted a → ⊥
not_refused e = subst Is_accepted (sym e) tt

module _ {A B : Type 0} where
  pub bind_inv : (m : Outcome A) (f : A → Outcome B) (b : B) → (m >>= f) ≡ accepted b → (a : A) × (m ≡ accepted a) × (f a ≡ accepted b)
  unfolding ◌>>=◌
  bind_inv (refused k p) f b e = absurd (not_refused e)
  bind_inv (accepted a) f b e = (a, refl, e)

  pub then_inv : (m : Outcome A) (n : Outcome B) (b : B) → (m >> n) ≡ accepted b → (a : A) × (m ≡ accepted a) × (n ≡ accepted b)
  unfolding ◌>>◌
  then_inv (refused k p) n b e = absurd (not_refused e)
  then_inv (accepted a) n b e = (a, refl, e)

pub must_inv : (k : ℕ) (t : Bool) (u : Unit {0}) → must k t ≡ accepted u → T t
unfolding must
must_inv k true u e = tt
must_inv k false u e = absurd (not_refused e)

pub accepted_inj : {A : Type 0} {a b : A} → accepted a ≡ accepted b → a ≡ b
accepted_inj {a} e = ap (λ o. elim o [ refused k p ↦ a | accepted c ↦ c ]) e

pub get_inv : {A : Type 0} (k : ℕ) (o : Option A) (a : A) → get k o ≡ accepted a → o ≡ some a
unfolding get
get_inv k none a e = absurd (not_refused e)
get_inv k (some x) a e = ap some (accepted_inj e)

-- ---- and back

pub must_ok : (k : ℕ) (t : Bool) → T t → must k t ≡ accepted tt
unfolding must
must_ok k true h = refl
must_ok k false h = absurd h

module _ {A B : Type 0} where
  pub then_ok : (m : Outcome A) (n : Outcome B) (a : A) → m ≡ accepted a → (m >> n) ≡ n
  unfolding ◌>>◌
  then_ok m n a e = ap (λ (x : Outcome A). x >> n) e

  pub bind_ok : (m : Outcome A) (f : A → Outcome B) (a : A) → m ≡ accepted a → (m >>= f) ≡ f a
  unfolding ◌>>=◌
  bind_ok m f a e = ap (λ (x : Outcome A). x >>= f) e

-- ---- a refusal of the code is the outcome with its number and place

pub as_refused : {A : Type 0} {k : ℕ} {p : Place} {r : Refusal} → r ≡ refusal k p → ◌≡◌ {A = Outcome A} (refused r.number (place_of r)) (refused k p)
as_refused e = ap (λ (r : Refusal). refused r.number (place_of r)) e

-- ---- rules in turn

-- the rule is in the list, behind rules of lesser rank
pub data Leads {R : Type 0} (rank : R → ℕ) (rule : R) : List R → Type 0 where
  here : {rs : List R} → Leads rank rule (rule ∷ rs)
  later : {r : R} {rs : List R} → T (ltb (rank r) (rank rule)) → Leads rank rule rs → Leads rank rule (r ∷ rs)

pub leads_in : {R : Type 0} {rank : R → ℕ} {rule : R} {rs : List R} → Leads rank rule rs → In rule rs
leads_in here = inl refl
leads_in (later h l) = inr (leads_in l)

module _ {R : Type 0} (check : R → Outcome (Unit {0})) where
  pub turn_ok : (rs : List R) → ((r : R) → In r rs → check r ≡ accepted tt) → in_turn check rs ≡ accepted tt
  unfolding in_turn
  turn_ok [] pass = refl
  turn_ok (r ∷ rs) pass = then_ok (check r) _ tt (pass r (inl refl)) ∙ turn_ok rs (λ q h. pass q (inr h))

  pub turn_inv : (rs : List R) (u : Unit {0}) → in_turn check rs ≡ accepted u → (r : R) → In r rs → check r ≡ accepted tt
  unfolding in_turn
  turn_inv [] u e r h = absurd h
  turn_inv (q ∷ rs) u e r (inl is) = ap check is ∙ (then_inv (check q) _ u e).1
  turn_inv (q ∷ rs) u e r (inr h) = turn_inv rs u (then_inv (check q) _ u e).2 r h

  -- where the rules of lesser rank pass, one that refuses is the refusal
  pub turn_stops : {rank : R → ℕ} {k : ℕ} {p : Place} {rule : R} {rs : List R} → Leads rank rule rs → ((r : R) → rank r < rank rule → check r ≡ accepted tt)
      → check rule ≡ refused k p → in_turn check rs ≡ refused k p
  unfolding in_turn ◌>>◌
  turn_stops (here {rs}) pass e = ap (λ (o : Outcome (Unit {0})). o >> in_turn check rs) e
  turn_stops {rank} {rule = rule} (later {r} {rs} h l) pass e = then_ok (check r) _ tt (pass r (ltb→lt (rank r) (rank rule) h)) ∙ turn_stops l pass e
