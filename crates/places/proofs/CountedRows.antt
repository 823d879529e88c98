-- A row counted, and the rows of a part one after another: on plain values. Assumes nothing.
use Prim.Native.Nat.{ℕ, zero, suc, ◌+◌, ◌≤◌, ◌<◌}
use native.Mathlib.Numerals.{add-one}
use native.Mathlib.Omega.{arith}
use mathlib.Core.Path.{◌≡◌, refl, sym, ap, ◌∙◌}
use mathlib.Core.Bool.{Bool, true, false, not, cond}
use mathlib.Core.Logic.{◌⊎◌, inl, inr}
use mathlib.Core.List.{List}
use lib.ListN.{length, get_or, set, length-set}
use lib.Seq.{get_or-set_same, get_or-set_other}
use lib.Dec.{T, eqb, eqb→eq, T_not}
use Rattle.std.specs.Int.{from_bool}
use Rattle.laws.proofs.Tests.{decide, T_true, eq-eqb, ne_eqb, one_at_most}
use Rattle.laws.proofs.Totals.{kept_none, kept_suc}
use Rattle.index.specs.Index.{max_rows}
use Rattle.places.specs.Counting.{goes, leaves, how_many, ObjectsCountable, RowCounted, RowsCounted}

-- ---- how many

module _ (t : ℕ → Bool) (first : ℕ) where
  many_none : how_many t first 0 ≡ 0
  many_none = kept_none (λ s. t (first + s))

  many_suc : (n : ℕ) → how_many t first (n + 1) ≡ how_many t first n + cond (t (first + n)) 1 0
  many_suc n = rw (add-one n) (kept_suc (λ s. t (first + s)) n)

  pub many_le : (n : ℕ) → how_many t first n ≤ n
  many_le zero = omega (arith, many_none)
  many_le (suc n) = omega (arith, many_le n, kept_suc (λ s. t (first + s)) n, one_at_most (t (first + n)))

-- ---- one row

module _ (covered dest counts : List ℕ) (p g : ℕ) where
  pub row_skipped : (get_or covered g 0 ≡ 0 → ⊥) → RowCounted covered dest p g counts counts false
  unfolding goes leaves
  row_skipped ne =
      let z = ne_eqb (get_or covered g 0) 0 ne in
      record { same = refl; sent = λ q h. rw z (omega arith); away = rw z refl }

  pub row_counted : (q : ℕ) → get_or covered g 0 ≡ 0 → q ≡ get_or dest g 0 → q < length counts
      → RowCounted covered dest p g counts (set counts q (get_or counts q 0 + 1)) (not (eqb p q))
  unfolding goes leaves
  row_counted q o e h = record {
    same = length-set counts q (get_or counts q 0 + 1);
    sent = λ r _. rw (o, ← e) (at r (decide (eqb q r)));
    away = rw (o, ← e) refl;
  }
    where
      at : (r : ℕ) → T (eqb q r) ⊎ T (not (eqb q r)) → get_or (set counts q (get_or counts q 0 + 1)) r 0 ≡ get_or counts r 0 + cond (eqb q r) 1 0
      at r (inl t) =
          let same : q ≡ r = eqb→eq q r t in
          rw (T_true (eqb q r) t) (ap (λ (k : ℕ). get_or (set counts q (get_or counts q 0 + 1)) k 0) (sym same) ∙ get_or-set_same counts q (get_or counts q 0 + 1) 0 h ∙ ap (λ (k : ℕ). get_or counts k 0 + 1) same)
      at r (inr t) =
          let apart : q ≡ r → ⊥ = λ s. T_not (eqb q r) t (eq-eqb q r s) in
          rw (ne_eqb q r apart) (get_or-set_other counts q r (get_or counts q 0 + 1) 0 (λ z. apart (sym z)) ∙ omega arith)

module _ {covered dest counts : List ℕ} {g q : ℕ} (asked : ObjectsCountable covered dest counts g 1) (o : get_or covered g 0 ≡ 0) (e : q ≡ get_or dest g 0) where
  is_part : q < 64
  is_part = omega (arith, e, asked.to g (omega arith) (omega arith) o)

  pub part_there : q < length counts
  part_there = omega (arith, is_part, asked.parts)

  pub part_small : get_or counts q 0 < max_rows
  part_small = omega (arith, asked.few, asked.small q is_part)

  pub object_counted : (p : ℕ) → RowCounted covered dest p g counts (set counts q (get_or counts q 0 + 1)) (not (eqb p q))
  object_counted p = row_counted covered dest counts p g q o e part_there

-- ---- the rows of a part

byte_is : (b : Bool) → from_bool b ≡ cond b 1 0
byte_is true = refl
byte_is false = refl

-- the first s rows are counted
pub record Counting (covered dest : List ℕ) (p first n : ℕ) (counts₀ counts : List ℕ) (s left : ℕ) : Type 0 where
  pub to : s ≤ n
  pub done : RowsCounted covered dest p first s counts₀ counts left

pub counting_none : (covered dest : List ℕ) (p first n : ℕ) (counts : List ℕ) → Counting covered dest p first n counts counts 0 0
counting_none covered dest p first n counts = record {
  to = omega arith;
  done = record {
    same = refl;
    sent = λ q h. omega (arith, many_none (goes covered dest q) first);
    away = sym (many_none (leaves covered dest p) first);
  };
}

module _ {covered dest : List ℕ} {p first n : ℕ} {counts₀ : List ℕ} (counts : List ℕ) (s left : ℕ) (inv : Counting covered dest p first n counts₀ counts s left) where
  counting_few : left ≤ s
  counting_few = omega (arith, inv.done.away, many_le (leaves covered dest p) first s)

  pub counting_row : ObjectsCountable covered dest counts₀ first n → s < n → ObjectsCountable covered dest counts (first + s) 1
  counting_row asked h = record {
    few = omega (arith, asked.few);
    room_covered = omega (arith, asked.room_covered);
    room_dest = omega (arith, asked.room_dest);
    parts = omega (arith, asked.parts, inv.done.same);
    to = λ g l k. asked.to g (omega arith) (omega arith);
    small = λ q l. omega (arith, asked.small q l, inv.done.sent q l, many_le (goes covered dest q) first s);
  }

  pub counting_more : s < n → (counts' : List ℕ) (away : Bool) (one : ℕ) → one ≡ from_bool away → RowCounted covered dest p (first + s) counts counts' away
      → Counting covered dest p first n counts₀ counts' (s + 1) (left + one)
  counting_more h counts' away one e r = record {
    to = omega arith;
    done = record {
      same = r.same ∙ inv.done.same;
      sent = λ q l. omega (arith, r.sent q l, inv.done.sent q l, many_suc (goes covered dest q) first s);
      away = omega (arith, e, byte_is away, ap {B = ℕ} (λ (t : Bool). cond t 1 0) r.away, inv.done.away, many_suc (leaves covered dest p) first s);
    };
  }

  pub counting_fits : (away : Bool) (one : ℕ) → one ≡ from_bool away → left + one ≤ s + 1
  counting_fits away one e = omega (arith, counting_few, e, byte_is away, one_at_most away)

  pub counting_done : n ≤ s → RowsCounted covered dest p first n counts₀ counts left
  counting_done h = let e : s ≡ n = omega (arith, inv.to) in rw (sym e) inv.done
