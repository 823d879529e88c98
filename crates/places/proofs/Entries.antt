-- The entries of a list are sent one after another: on plain values. Assumes nothing.
use Prim.Native.Nat.{ℕ, ◌+◌, ◌≤◌, ◌<◌}
use native.Mathlib.Nat.{eq-or-lt_of_le, lt_trans}
use native.Mathlib.Omega.{arith}
use mathlib.Core.Path.{◌≡◌, refl, sym, ap, ◌∙◌, subst}
use mathlib.Core.Logic.{◌⊎◌, inl, inr}
use mathlib.Core.List.{List}
use borrow.Author.Count.{below_more}
use lib.ListN.{length, get_or, set, length-set}
use lib.Seq.{get_or-set_same, get_or-set_other}
use Rattle.paper.specs.Move.{entry_name, entry_part, all_entries}
use Rattle.merge.specs.Runs.{key_in}
use Rattle.moves.specs.Catalog.{Listing, Behind, Lower}
use Rattle.moves.proofs.Cursor.{behind_none, still_behind, place_is, found}
use Rattle.places.specs.Sweep.{EntryAhead, EntrySent, Addressed, Sent}

-- ---- one entry

module _ {l keys ord dest : List ℕ} {count from i : ℕ} (listing : Listing keys ord count) (asked : EntryAhead l keys ord dest count from i)
    {x : ℕ} (named : x ≡ entry_name l i) where
  pub entry_sought : Behind keys ord count x from
  entry_sought = subst (λ (k : ℕ). Behind keys ord count k from) (sym named) asked.behind

-- ---- the sweep

-- the first i entries are sent, their names are below the next one's, and the cursor has passed nothing that entry i or a later one could name
pub record Sweeping (l keys ord : List ℕ) (count : ℕ) (dest₀ dest : List ℕ) (i from : ℕ) : Type 0 where
  pub to : i ≤ all_entries l
  pub sent : Sent l keys ord count i dest₀ dest
  pub after : i < all_entries l → (e : ℕ) → e < i → entry_name l e < entry_name l i
  pub behind : i < all_entries l → Behind keys ord count (entry_name l i) from

module _ {l keys ord : List ℕ} {count : ℕ} {dest₀ : List ℕ} (listing : Listing keys ord count) (asked : Addressed l keys ord count)
    (rows : (j : ℕ) → j < count → get_or ord j 0 < length dest₀) where
  pub sweeping_none : Sweeping l keys ord count dest₀ dest₀ 0 0
  sweeping_none = record {
    to = omega arith;
    sent = record { same = refl; listed = λ e j h g n. absurd (omega arith); other = λ g f. refl };
    after = λ h e g. absurd (omega arith);
    behind = λ h. behind_none;
  }

  module _ (dest : List ℕ) (i from : ℕ) (inv : Sweeping l keys ord count dest₀ dest i from) (h : i < all_entries l) where
    pub sweeping_ahead : EntryAhead l keys ord dest count from i
    sweeping_ahead = record {
      room = λ j g. omega (arith, rows j g, inv.sent.same);
      whole = asked.whole i h;
      part = asked.part i h;
      there = asked.there i h;
      behind = inv.behind h;
    }

    module _ (j : ℕ) (v : Lower keys ord count (entry_name l i) j) where
      place_found : (j < count) × (key_in keys (get_or ord j 0) ≡ entry_name l i)
      place_found = found listing v (asked.there i h)

      -- the row of this entry's entity is none of those sent before
      row_apart : (e k : ℕ) → e < i → key_in keys (get_or ord k 0) ≡ entry_name l e → get_or ord k 0 ≡ get_or ord j 0 → ⊥
      row_apart e k b n z = omega (arith, inv.after h e b, place_found.1, ap (key_in keys) z)

      row_there : get_or ord j 0 < length dest
      row_there = omega (arith, rows j place_found.0, inv.sent.same)

      abbrev dest' : List ℕ
      dest' = set dest (get_or ord j 0) (entry_part l i)

      listed : (e k : ℕ) → (e ≡ i) ⊎ (e < i) → k < count → key_in keys (get_or ord k 0) ≡ entry_name l e → get_or dest' (get_or ord k 0) 0 ≡ entry_part l e
      listed e k (inl s) g n =
          let same : j ≡ k = place_is listing v k g (n ∙ ap (entry_name l) s) in
          ap (λ (z : ℕ). get_or dest' (get_or ord z 0) 0) (sym same) ∙ get_or-set_same dest (get_or ord j 0) (entry_part l i) 0 row_there ∙ ap (entry_part l) (sym s)
      listed e k (inr b) g n =
          get_or-set_other dest (get_or ord j 0) (get_or ord k 0) (entry_part l i) 0 (row_apart e k b n) ∙ inv.sent.listed e k b g n

      sweeping-next : Sweeping l keys ord count dest₀ dest' (i + 1) j
      sweeping-next = record {
        to = omega arith;
        sent = record {
          same = length-set dest (get_or ord j 0) (entry_part l i) ∙ inv.sent.same;
          listed = λ e k a g n. listed e k (eq-or-lt_of_le (omega arith)) g n;
          other = λ g f.
              get_or-set_other dest (get_or ord j 0) g (entry_part l i) 0 (λ e. f i j (omega arith) place_found.0 place_found.1 (sym e))
              ∙ inv.sent.other g (λ e k a b n z. f e k (omega arith) b n z);
        };
        after = λ g. below_more (λ (e : ℕ). entry_name l e < entry_name l (i + 1)) i (λ e a. lt_trans (inv.after h e a) (asked.up i g)) (asked.up i g);
        behind = λ g. still_behind v.behind (asked.up i g);
      }

    pub sweeping_more : (dest' : List ℕ) (j : ℕ) → EntrySent l keys ord count i dest dest' j → Sweeping l keys ord count dest₀ dest' (i + 1) j
    sweeping_more dest' j s = subst (λ (d : List ℕ). Sweeping l keys ord count dest₀ d (i + 1) j) (sym s.put) (sweeping-next j s.lower)

  pub sweeping_done : (dest : List ℕ) (i from : ℕ) → Sweeping l keys ord count dest₀ dest i from → all_entries l ≤ i → Sent l keys ord count (all_entries l) dest₀ dest
  sweeping_done dest i from inv h =
      let e : i ≡ all_entries l = omega (arith, inv.to) in
      subst (λ (k : ℕ). Sent l keys ord count k dest₀ dest) e inv.sent
