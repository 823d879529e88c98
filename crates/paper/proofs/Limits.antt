-- The limits that no computed case reaches, 1, 18 and `too long`: each is given exactly when the document says, its numbers written out.
-- Assumes nothing.
use Prim.Native.Nat.{ℕ, ◌<◌, ◌≤◌}
use mathlib.Core.Path.{◌≡◌, refl, sym, ap, subst}
use mathlib.Core.Bool.{Bool, true, false, not}
use mathlib.Core.List.{List, [], ◌∷◌}
use mathlib.Core.Option.{Option, none, some}
use lib.ListN.{length}
use lib.Dec.{T, eqb, leb, leb→le}
use borrow.Author.Tests.{lt-ltb, le-ltb, lt-leb, leb-false, eq-eqb}
use Rattle.paper.specs.Outcome.{Outcome, Place, refused, accepted, nowhere, ◌>>=◌, ◌>>◌, must, get, unless, in_turn}
use Rattle.paper.specs.Image.{Set}
use Rattle.paper.specs.declared.Rule.{Rule}
use Rattle.paper.specs.declared.Rule.TheVariants.{Fields, Order, Boundary, Copies, Residence, Owner}
use Rattle.paper.specs.declared.EntryRule.{EntryRule}
use Rattle.paper.specs.declared.EntryRule.TheVariants.{Whole, Destination, Known, Object}
use Rattle.paper.specs.Sound.{rules, number_of, decode, rules_of, sound_of, check_of, rows_must}
use Rattle.paper.specs.Move.{entry_rules, number_of_entry, entries_must, Migrated, migrated, size_set}
use Rattle.paper.specs.Listing.{answer_text, listing_of}
use Rattle.paper.proofs.Outcomes.{not_refused, accepted_inj, then_inv, must_inv}
use Rattle.paper.proofs.Table.{text}

-- ---- a refusal's number says which check gave it

abbrev number : {A : Type 0} → Outcome A → ℕ
number (refused k p) = k
number (accepted a) = 0

-- o never refuses with number k
record Never {A : Type 0} (k : ℕ) (o : Outcome A) : Type 0 where
  never : (p : Place) → o ≡ refused k p → ⊥

not_equal : (j k : ℕ) → T (not (eqb j k)) → j ≡ k → ⊥
not_equal j k h e = subst (λ t. T (not t)) (eq-eqb j k e) h

-- a check with another number
never_must : (k j : ℕ) (t : Bool) → T (not (eqb j k)) → Never k (must j t)
unfolding must
never_must k j true h = record { never = λ p e. not_refused (sym e) }
never_must k j false h = record { never = λ p e. not_equal j k h (ap number e) }

never_unless : (k j : ℕ) (o : Option Place) → T (not (eqb j k)) → Never k (unless j o)
unfolding unless
never_unless k j none h = record { never = λ p e. not_refused (sym e) }
never_unless k j (some q) h = record { never = λ p e. not_equal j k h (ap number e) }

module _ {A : Type 0} where
  never_accepted : {k : ℕ} {a : A} → Never k (accepted a)
  never_accepted = record { never = λ p e. not_refused (sym e) }

  never_get : (k j : ℕ) (o : Option A) → T (not (eqb j k)) → Never k (get j o)
  unfolding get
  never_get k j none h = record { never = λ p e. not_equal j k h (ap number e) }
  never_get k j (some a) h = record { never = λ p e. not_refused (sym e) }

module _ {A B : Type 0} where
  never_then : {k : ℕ} {m : Outcome A} {n : Outcome B} → Never k m → Never k n → Never k (m >> n)
  unfolding ◌>>◌
  never_then {m = refused j q} first second = record { never = λ p e. first.never p (cc) }
  never_then {m = accepted a} first second = second

  never_bind : {k : ℕ} {m : Outcome A} {f : A → Outcome B} → Never k m → ((a : A) → Never k (f a)) → Never k (m >>= f)
  unfolding ◌>>=◌
  never_bind {m = refused j q} first second = record { never = λ p e. first.never p (cc) }
  never_bind {m = accepted a} first second = second a

  -- the first check has another number, so the rest gave this one
  then_rest : (k : ℕ) (m : Outcome A) (n : Outcome B) (p : Place) → Never k m → (m >> n) ≡ refused k p → n ≡ refused k p
  unfolding ◌>>◌
  then_rest k (refused j q) n p first e = absurd (first.never p (cc))
  then_rest k (accepted a) n p first e = e

  -- the second check has another number, so the first gave this one
  bind_rest : (m : Outcome A) (f : A → Outcome B) (k : ℕ) (p : Place) → ((a : A) → Never k (f a)) → (m >>= f) ≡ refused k p → m ≡ refused k p
  unfolding ◌>>=◌
  bind_rest (refused j q) f k p second e = cc
  bind_rest (accepted a) f k p second e = absurd ((second a).never p e)

  -- what only changes an accepted value refuses as before
  bind_refused : (m : Outcome A) (f : A → B) (k : ℕ) (p : Place) → (m >>= λ a. accepted (f a)) ≡ refused k p → m ≡ refused k p
  unfolding ◌>>=◌
  bind_refused (refused j q) f k p e = cc
  bind_refused (accepted a) f k p e = absurd (not_refused (sym e))

never_turn : {R : Type 0} (k : ℕ) (check : R → Outcome (Unit {0})) → ((r : R) → Never k (check r)) → (rs : List R) → Never k (in_turn check rs)
unfolding in_turn
never_turn k check each [] = never_accepted
never_turn k check each (r ∷ rs) = never_then (each r) (never_turn k check each rs)

-- the rules give their own numbers
never_rule : (k : ℕ) (S : Set) → ((rule : Rule) → T (not (eqb (number_of rule) k))) → Never k (in_turn (rows_must S) rules)
unfolding rows_must
never_rule k S other = never_turn k (rows_must S) (λ rule. never_unless k (number_of rule) _ (other rule)) rules

never_entry : (k : ℕ) (S : Set) (l : List ℕ) → ((rule : EntryRule) → T (not (eqb (number_of_entry rule) k))) → Never k (in_turn (entries_must S l) entry_rules)
unfolding entries_must
never_entry k S l other = never_turn k (entries_must S l) (λ rule. never_unless k (number_of_entry rule) _ (other rule)) entry_rules

not_1 : (rule : Rule) → T (not (eqb (number_of rule) 1))
not_1 Fields = tt
not_1 Order = tt
not_1 Boundary = tt
not_1 Copies = tt
not_1 Residence = tt
not_1 Owner = tt

not_18 : (rule : EntryRule) → T (not (eqb (number_of_entry rule) 18))
not_18 Whole = tt
not_18 Destination = tt
not_18 Known = tt
not_18 Object = tt

-- the rest never gives this number, so the check failed
must_own : {A : Type 0} (k : ℕ) (t : Bool) (n : Outcome A) (p : Place) → Never k n → (must k t >> n) ≡ refused k p → t ≡ false
unfolding must ◌>>◌
must_own k true n p rest e = absurd (rest.never p e)
must_own k false n p rest e = refl

-- ---- 1: an image over 1,048,576 bytes

pub check_large : (b : List ℕ) → 1048576 < length b → check_of b ≡ refused 1 nowhere
unfolding check_of sound_of decode must ◌>>◌ ◌>>=◌
check_large b h = rw (lt-leb (length b) 1048576 h)

pub check_large_only : (b : List ℕ) (p : Place) → check_of b ≡ refused 1 p → 1048576 < length b
unfolding check_of sound_of decode rules_of
check_large_only b p e =
    leb-false (length b) 1048576
    (must_own 1 (leb (length b) 1048576) _ p
    (never_then (never_must 1 2 _ tt)
    (never_then (never_must 1 3 _ tt)
    (never_then (never_must 1 4 _ tt)
    (never_then (never_must 1 5 _ tt) (never_get 1 6 _ tt)))))
    (bind_rest (decode b) rules_of 1 p (λ S. never_then (never_rule 1 S not_1) never_accepted) (bind_refused (sound_of b) _ 1 p e)))

-- ---- 18: a result over 1,048,576 bytes

-- what is accepted is not over
pub size_accepted : (S : Set) (l : List ℕ) (work : ℕ) (m : Migrated) → size_set S l work ≡ accepted m → length m.image ≤ 1048576
unfolding size_set
size_accepted S l work m e =
    let e17 = (then_inv _ _ m e).2 in
    let e18 = (then_inv _ _ m e17).2 in
    let t = then_inv _ _ m e18 in
    let is : migrated S l ≡ m = accepted_inj t.2 in
    subst (λ (x : Migrated). length x.image ≤ 1048576) is (leb→le (length (migrated S l).image) 1048576 (must_inv 18 _ t.0 t.1))

-- what is refused under 18 is over
pub size_large_only : (S : Set) (l : List ℕ) (work : ℕ) (p : Place) → size_set S l work ≡ refused 18 p → 1048576 < length (migrated S l).image
unfolding size_set
size_large_only S l work p e =
    let e17 = then_rest 18 _ _ p (never_entry 18 S l not_18) e in
    let e18 = then_rest 18 _ _ p (never_must 18 17 _ tt) e17 in
    leb-false (length (migrated S l).image) 1048576 (must_own 18 _ _ p never_accepted e18)

-- ---- the listing

-- more than 65,536 bytes are too long, whatever the bytes are
pub listing_long : (b : List ℕ) → 65536 < length b → listing_of b ≡ text ("too long" ∷ [])
unfolding listing_of
listing_long b h = rw (lt-ltb 65536 (length b) h)

-- 65,536 are still read
pub listing_read : (b : List ℕ) → length b ≤ 65536 → listing_of b ≡ answer_text (sound_of b)
unfolding listing_of
listing_read b h = rw (le-ltb 65536 (length b) h)
