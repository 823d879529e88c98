-- Which rows are listed: exactly the lowest copies. Assumes nothing.
use Prim.Native.Nat.{ℕ, ◌+◌, ◌≤◌, ◌<◌}
use native.Mathlib.Omega.{arith}
use mathlib.Core.Path.{◌≡◌, sym, ap, ◌∙◌, subst}
use mathlib.Core.List.{List, [], map}
use lib.ListN.{length, get_or, take}
use lib.Seq.{get_or-take, length-take-le}
use lib.Dec.{T}
use Rattle.std.specs.Prelude.{Result, is_ok}
use Rattle.laws.specs.Lists.{In, keep, flat, up_to, ascending}
use Rattle.laws.proofs.Members.{map_in, in_map, keep_in, in_keep, flat_map_in, in_flat_map, get_or_in}
use Rattle.laws.proofs.Ranges.{up_to_in, in_up_to}
use Rattle.merge.specs.Runs.{key_in, Runs, Merged}
use Rattle.merge.specs.Runs as R
use Rattle.merge.specs.Merge.{merge_all}
use Rattle.merge.proofs.Outcome.{merged_named}
use Rattle.merge.proofs.Bounds.{flat_all}
use Rattle.merge.proofs.Pairing.{merge_all_in, in_merge_all}
use Rattle.paper.specs.Image.{Set}
use Rattle.index.specs.Index.{set_in, max_rows, Indexed, Named}
use Rattle.entities.specs.declared.Repeated.{Repeated}
use Rattle.entities.specs.LowestCopies.{is_low, low_rows, low_runs, by_name, LowRow, count_of, Entities}
use Rattle.entities.specs.Gathering.{Gathered}
use Rattle.rows.proofs.Laws.{row_there}

module _ (S : Set) (starts : List ℕ) where
  pub low_rows_in : (p g : ℕ) → In g (low_rows S starts p) → (s : ℕ) × (s < length (get_or S p [])) × T (is_low S p s) × (g ≡ get_or starts p 0 + s)
  unfolding low_rows
  low_rows_in p g i =
      let w = map_in (λ s. get_or starts p 0 + s) (keep (is_low S p) (up_to (length (get_or S p [])))) g i in
      let v = keep_in (is_low S p) (up_to (length (get_or S p []))) w.0 w.1 in
      (w.0, up_to_in (length (get_or S p [])) w.0 v.0, v.1, w.2)

  pub in_low_rows : (p s : ℕ) → s < length (get_or S p []) → T (is_low S p s) → In (get_or starts p 0 + s) (low_rows S starts p)
  unfolding low_rows
  in_low_rows p s h t =
      in_map (λ s. get_or starts p 0 + s) (keep (is_low S p) (up_to (length (get_or S p [])))) s
      (in_keep (is_low S p) (up_to (length (get_or S p []))) s (in_up_to (length (get_or S p [])) s h) t)

  pub runs_in : (n g : ℕ) → In g (flat (low_runs S starts n)) → LowRow S starts n g
  unfolding low_runs
  runs_in n g i =
      let w = flat_map_in (low_rows S starts) (up_to n) g i in
      let v = low_rows_in w.0 g w.2 in
      record { part = w.0; slot = v.0; within = up_to_in n w.0 w.1; there = v.1; low = v.2; is = v.3 }

  pub in_runs : (n p s : ℕ) → p < n → s < length (get_or S p []) → T (is_low S p s) → In (get_or starts p 0 + s) (flat (low_runs S starts n))
  unfolding low_runs
  in_runs n p s l h t = in_flat_map (low_rows S starts) (up_to n) p (get_or starts p 0 + s) (in_up_to n p l) (in_low_rows p s h t)

  -- every row of the list is one, and every one is there
  pub listed_low : (keys : List ℕ) (n g : ℕ) → In g (by_name S starts keys n) → LowRow S starts n g
  unfolding by_name
  listed_low keys n g i = runs_in n g (merge_all_in (key_in keys) (low_runs S starts n) g i)

  pub low_listed : (keys : List ℕ) (n p s : ℕ) → p < n → s < length (get_or S p []) → T (is_low S p s) → In (get_or starts p 0 + s) (by_name S starts keys n)
  unfolding by_name
  low_listed keys n p s l h t = in_merge_all (key_in keys) (low_runs S starts n) (get_or starts p 0 + s) (in_runs n p s l h t)

-- of what `entities` answers
module _ {S : Set} {starts keys ord tmp ord' tmp' : List ℕ} {n : ℕ} {r : Result ℕ Repeated} (e : Entities S starts keys ord tmp ord' tmp' n r) where
  pub entry_low : (i : ℕ) → i < (count_of r) → LowRow S starts n (get_or ord' i 0)
  entry_low i h =
      let xs = take (count_of r) ord' in
      let l : i < length xs = omega (arith, length-take-le (count_of r) ord' e.within) in
      let j : In (get_or ord' i 0) xs = rw (get_or-take (count_of r) ord' i 0 h) at (get_or_in xs i 0 l) in
      listed_low S starts keys n (get_or ord' i 0) (subst (λ (ys : List ℕ). In (get_or ord' i 0) ys) e.rows j)

  pub low_entry : (p s : ℕ) → p < n → s < length (get_or S p []) → T (is_low S p s) → In (get_or starts p 0 + s) (take (count_of r) ord')
  low_entry p s l h t = subst (λ (ys : List ℕ). In (get_or starts p 0 + s) ys) (sym e.rows) (low_listed S starts keys n p s l h t)

-- ---- what is gathered, as runs to merge

module _ {b offs starts : List ℕ} {n : ℕ} (index : Indexed b offs starts n) (keys : List ℕ) (named : Named b starts keys) (ord st ord' st' : List ℕ) (t : ℕ)
    (room : max_rows + 1 ≤ length ord) (g : Gathered (set_in b) starts ord st ord' st' n t) where
  gathered_front : take t ord' ≡ flat (low_runs (set_in b) starts n)
  gathered_front = ap (λ (j : ℕ). take j ord') (sym g.total) ∙ sym (flat_all st' ord' n g.up g.first) ∙ ap flat g.runs

  gathered_few : t ≤ max_rows
  gathered_few = omega (arith, g.few, index.total_few)

  named_each : (k : ℕ) → k < t → get_or ord' k 0 < length keys
  named_each k h =
      let l : k < length (take t ord') = omega (arith, length-take-le t ord' (omega (arith, gathered_few, g.same_ord))) in
      let i : In (get_or (take t ord') k 0) (take t ord') = get_or_in (take t ord') k 0 l in
      let j : In (get_or ord' k 0) (flat (low_runs (set_in b) starts n)) = subst (λ (z : ℕ). In z (flat (low_runs (set_in b) starts n))) (get_or-take t ord' k 0 h) (subst (λ (xs : List ℕ). In (get_or (take t ord') k 0) xs) gathered_front i) in
      let w = runs_in (set_in b) starts n (get_or ord' k 0) j in
      omega (arith, w.is, row_there index w.part w.slot w.there, named.room)

  pub gathered_named : R.Named keys ord' t
  gathered_named = record { within = omega (arith, gathered_few, g.same_ord); each = named_each }

  pub gathered_runs : Runs keys ord' st' n
  gathered_runs = record {
    bounds = g.long;
    starts = g.first;
    up = g.up;
    rows = subst (λ (j : ℕ). R.Named keys ord' j) (sym g.total) gathered_named;
  }

  -- and their merge
  module _ (tmp ord'' tmp' st'' : List ℕ) (m : Merged keys ord' tmp st' ord'' tmp' st'' n) where
    pub merged_names : R.Named keys ord'' t
    merged_names = subst (λ (j : ℕ). R.Named keys ord'' j) g.total (merged_named keys ord' tmp st' ord'' tmp' st'' n gathered_runs m)

    pub entities_listed : (r : Result ℕ Repeated) → count_of r ≡ t → is_ok r ≡ ascending (map (key_in keys) (take t ord''))
        → Entities (set_in b) starts keys ord tmp ord'' tmp' n r
    unfolding by_name
    entities_listed r c d = record {
      rows = ap (λ (j : ℕ). take j ord'') (c ∙ sym g.total) ∙ m.merged ∙ ap (merge_all (key_in keys)) g.runs;
      distinct = d ∙ ap (λ (j : ℕ). ascending (map (key_in keys) (take j ord''))) (sym c);
      few = omega (arith, c, g.few);
      within = omega (arith, c, merged_names.within);
      same_ord = m.same_ord ∙ g.same_ord;
      same_tmp = m.same_tmp;
    }
