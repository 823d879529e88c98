-- The entries under each rule, on plain values. Assumes nothing.
use Prim.Native.Nat.{ℕ, suc, ◌+◌, ◌*◌, ◌≤◌, ◌<◌}
use native.Mathlib.Numerals.{add-one}
use native.Mathlib.Omega.{arith}
use mathlib.Core.Path.{◌≡◌, sym, subst}
use mathlib.Core.Bool.{Bool}
use mathlib.Core.List.{List}
use lib.ListN.{length, get_or}
use lib.Dec.{T, leb, ltb, eqb, leb→le, ltb→lt, lt→ltb, eqb→eq}
use Rattle.std.proofs.Common.{Option}
use Rattle.laws.specs.Lists.{flat}
use Rattle.laws.proofs.Tests.{eq-eqb, split4}
use Rattle.field.specs.Bytes.{u8_at, u16_at}
use Rattle.paper.specs.Image.{Set}
use Rattle.paper.specs.Mesh.{parts_of, is_object, holds}
use Rattle.paper.specs.Move.{entry_name, entry_part, all_entries, ascends, entry_fitting, entry_judged}
use Rattle.paper.specs.declared.EntryRule.{EntryRule}
use Rattle.paper.specs.declared.EntryRule.TheVariants.{Whole, Destination, Known, Object}
use Rattle.demands.specs.Passed.{EntriesPassed}
use Rattle.moves.specs.Catalog.{Present, Uncovered, Catalog}
use Rattle.moves.specs.Entries.{Ascending, FirstBroken}
use Rattle.moves.proofs.Loops.{first_with}

-- ---- what the rules before gave

-- an entry that fits is whole, and comes after the one before it
fits_after : (l : List ℕ) (i : ℕ) → T (entry_fitting l i) → (8 * i + 8 ≤ length l) × T (ascends l i)
unfolding entry_fitting
fits_after l i t =
    let s = split4 (leb (8 * i + 8) (length l)) (eqb (u16_at l (8 * i + 6)) 0) (leb (u8_at l (8 * i + 4)) 3) (ascends l i) t in
    (leb→le (8 * i + 8) (length l) s.0, s.3)

pub passed_whole : (S : Set) (l : List ℕ) → EntriesPassed Whole S l → (i : ℕ) → i < all_entries l → 8 * i + 8 ≤ length l
unfolding entry_judged
passed_whole S l pass i g = (fits_after l i (pass i g)).0

pub passed_next : (S : Set) (l : List ℕ) → EntriesPassed Whole S l → (i : ℕ) → i + 1 < all_entries l → entry_name l i < entry_name l (i + 1)
unfolding entry_judged ascends
passed_next S l pass i g = rw (add-one i) (ltb→lt (entry_name l i) (entry_name l (suc i)) (fits_after l (suc i) (pass (suc i) (omega arith))).1)

pub passed_known : (S : Set) (l : List ℕ) → EntriesPassed Known S l → (i : ℕ) → i < all_entries l → T (holds (flat (parts_of S)) (entry_name l i))
unfolding entry_judged
passed_known S l pass i g = pass i g

-- what `Ascending` is made of
pub ascending : (S : Set) (l : List ℕ) → EntriesPassed Whole S l → Ascending l
ascending S l pass = record { whole = passed_whole S l pass; up = passed_next S l pass }

-- ---- what the code finds is what the paper judges

-- every entry keeps the rule, or o is the first that does not
abbrev pub Found : EntryRule → Set → List ℕ → Option ℕ → Type 0
Found rule S l o = FirstBroken (λ i. T (entry_judged rule S l i)) (all_entries l) o

pub by_whole : (S : Set) (l : List ℕ) (o : Option ℕ) → FirstBroken (λ i. T (entry_fitting l i)) (all_entries l) o → Found Whole S l o
unfolding entry_judged
by_whole S l o w = w

pub by_destination : (S : Set) (l : List ℕ) (n : ℕ) → length S ≡ n → (o : Option ℕ) → FirstBroken (λ i. entry_part l i < n) (all_entries l) o → Found Destination S l o
unfolding entry_judged
by_destination S l n e o w =
    first_with (λ i. entry_part l i < n) (λ i. T (ltb (entry_part l i) (length S))) (all_entries l)
    (λ i h k. lt→ltb (entry_part l i) (length S) (omega (arith, k, e))) (λ i h t. omega (arith, ltb→lt (entry_part l i) (length S) t, e)) o w

module _ {S : Set} (l : List ℕ) {keys ord covered : List ℕ} {count : ℕ} (catalog : Catalog S keys ord covered count) where
  pub by_known : (o : Option ℕ) → FirstBroken (λ i. Present keys ord count (entry_name l i)) (all_entries l) o → Found Known S l o
  unfolding entry_judged
  by_known o w =
      first_with (λ i. Present keys ord count (entry_name l i)) (λ i. T (holds (flat (parts_of S)) (entry_name l i))) (all_entries l)
      (λ i h p. subst (λ (k : ℕ). T (holds (flat (parts_of S)) k)) p.2 (catalog.held p.0 p.1)) (λ i h t. catalog.all (entry_name l i) t) o w

  pub presents : EntriesPassed Known S l → (i : ℕ) → i < all_entries l → Present keys ord count (entry_name l i)
  presents pass i h = catalog.all (entry_name l i) (passed_known S l pass i h)

  pub by_object : EntriesPassed Known S l → (o : Option ℕ) → FirstBroken (λ i. Uncovered keys ord covered count (entry_name l i)) (all_entries l) o → Found Object S l o
  unfolding entry_judged
  by_object pass o w =
      let es = flat (parts_of S) in
      first_with (λ i. Uncovered keys ord covered count (entry_name l i)) (λ i. T (is_object es (entry_name l i))) (all_entries l)
      (λ i h p. subst (λ (k : ℕ). T (is_object es k)) p.2 (subst (λ (b : Bool). T b) (catalog.object p.0 p.1) (eq-eqb (get_or covered (get_or ord p.0 0) 0) 0 p.3)))
      (λ i h t.
      let p = presents pass i h in
      (p.0, p.1, p.2, eqb→eq (get_or covered (get_or ord p.0 0) 0) 0 (subst (λ (b : Bool). T b) (sym (catalog.object p.0 p.1)) (subst (λ (k : ℕ). T (is_object es k)) (sym p.2) t))))
      o w
