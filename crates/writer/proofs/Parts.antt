-- The rows of a part, written one after another.
-- Assumes nothing.
use Prim.Native.Nat.{ℕ, suc, ◌+◌, ◌≤◌, ◌<◌}
use native.Mathlib.Omega.{arith}
use mathlib.Core.Path.{◌≡◌, refl, sym, ap, ◌∙◌, subst}
use mathlib.Core.List.{List, [], ◌∷◌, ◌++◌, map}
use lib.ListN.{length, get_or, take, drop, length-map, length-append, drop_of_length-le}
use lib.Seq.{sets, drop-cons, take-length}
use Rattle.laws.specs.Lists.{flat}
use Rattle.laws.proofs.Agree.{map_of_map}
use Rattle.field.specs.Bytes.{bytes_of}
use Rattle.field.proofs.Numbers.{length-bytes}
use Rattle.laws.proofs.Stores.{sets_then}
use Rattle.paper.specs.Image.{Row, row_bytes, bytes_of_part}
use Rattle.writer.specs.Rows.{new_rows}
use Rattle.writer.specs.Sources.{row_in, rows_in}
use Rattle.writer.specs.declared.NewRows.{NewRows}
use Rattle.writer.specs.Written.{Put}
use Rattle.writer.proofs.Writing.{Writing, write_none, write_more, write_done}

-- ---- the bytes of each of xs, one after another

abbrev pub runs : (ℕ → List ℕ) → List ℕ → List ℕ
runs f xs = flat (map f xs)

runs_cons : (f : ℕ → List ℕ) (x : ℕ) (xs : List ℕ) → runs f (x ∷ xs) ≡ f x ++ runs f xs
unfolding flat
runs_cons f x xs = refl

runs_nil : (f : ℕ → List ℕ) → runs f [] ≡ []
unfolding flat
runs_nil f = refl

-- those from the one at k on are left to write
pub record RunsLeft (f : ℕ → List ℕ) (xs start : List ℕ) (at : ℕ) (out : List ℕ) (k to : ℕ) : Type 0 where
  pub writing : Writing start at (runs f xs) out to (runs f (drop k xs))
  pub next? : to + length (runs f (drop k xs)) ≡ at + length (runs f xs)

pub runs_none : (f : ℕ → List ℕ) (xs : List ℕ) {start : List ℕ} {at : ℕ} → at + length (runs f xs) ≤ length start → RunsLeft f xs start at start 0 at
runs_none f xs {start} {at} h = record { writing = write_none start at (runs f xs) (runs f xs) refl h; next? = refl }

runs_split : (f : ℕ → List ℕ) (xs : List ℕ) (k : ℕ) → k < length xs → runs f (drop k xs) ≡ f (get_or xs k 0) ++ runs f (drop (k + 1) xs)
runs_split f xs k l =
    let e : suc k ≡ k + 1 = omega arith in
    ap (runs f) (drop-cons xs k 0 l) ∙ runs_cons f (get_or xs k 0) (drop (suc k) xs) ∙ ap (λ (z : ℕ). f (get_or xs k 0) ++ runs f (drop z xs)) e

module _ {f : ℕ → List ℕ} {xs start : List ℕ} {at : ℕ} {out : List ℕ} {k to : ℕ} (w : RunsLeft f xs start at out k to) where
  pub runs_room : k < length xs → to + length (f (get_or xs k 0)) ≤ length out
  runs_room l = omega (arith, w.writing.room, ap length (runs_split f xs k l), length-append (f (get_or xs k 0)) (runs f (drop (k + 1) xs)))

  pub runs_more : {out' : List ℕ} {to' : ℕ} → k < length xs → Put (f (get_or xs k 0)) out out' to to' → RunsLeft f xs start at out' (k + 1) to'
  runs_more {out'} {to'} l p =
      let one = f (get_or xs k 0) in
      let rest = runs f (drop (k + 1) xs) in
      record {
        writing = write_more start at (runs f xs) out to (runs f (drop k xs)) one rest out' to' w.writing (runs_split f xs k l) p.written p.next?;
        next? = omega (arith, w.next?, p.next?, ap length (runs_split f xs k l), length-append one rest);
      }

  pub runs_done : length xs ≤ k → Put (runs f xs) start out at to
  runs_done l =
      let none = ap (runs f) (drop_of_length-le xs l) ∙ runs_nil f in
      record { written = write_done start at (runs f xs) out to (runs f (drop k xs)) w.writing none; next? = omega (arith, w.next?, ap length none) }

-- ---- the rows of a part

-- the bytes of the row of entity i
abbrev pub entity_bytes : NewRows → ℕ → ℕ → List ℕ
entity_bytes w q i = row_bytes (row_in w q i)

-- all of them, one after another
abbrev pub all_rows : NewRows → ℕ → List ℕ → List ℕ
all_rows w q members = flat (map row_bytes (rows_in w members q))

rows-runs : (w : NewRows) (q : ℕ) (members : List ℕ) → all_rows w q members ≡ runs (entity_bytes w q) members
unfolding new_rows
rows-runs w q members =
    ap (λ (l : List ℕ). flat (map row_bytes (map (row_in w q) l))) (take-length members) ∙ ap flat (map_of_map row_bytes (row_in w q) members)

pub rows_count : (w : NewRows) (q : ℕ) (members : List ℕ) → length (rows_in w members q) ≡ length members
unfolding new_rows
rows_count w q members =
    length-map (take (length members) (drop 0 members)) (row_in w q) ∙ ap length (take-length members)

-- the rows of the members from the one at k on are left to write
abbrev pub RowsLeft : NewRows → ℕ → List ℕ → List ℕ → ℕ → List ℕ → ℕ → ℕ → Type 0
RowsLeft w q members start at out k to = RunsLeft (entity_bytes w q) members start at out k to

module _ (w : NewRows) (q : ℕ) (members : List ℕ) {start : List ℕ} {at : ℕ} where
  pub rows_none : at + length (all_rows w q members) ≤ length start → RowsLeft w q members start at start 0 at
  rows_none h = runs_none (entity_bytes w q) members (omega (arith, ap length (rows-runs w q members)))

  pub rows_done : {out : List ℕ} {k to : ℕ} → RowsLeft w q members start at out k to → length members ≤ k → Put (all_rows w q members) start out at to
  rows_done {out} {k} {to} v h = subst (λ (bytes : List ℕ). Put bytes start out at to) (sym (rows-runs w q members)) (runs_done v h)

-- a part: its count, and its rows
pub part-put : (rows : List Row) (n : ℕ) (start mid out : List ℕ) (at next : ℕ) → n ≡ length rows → mid ≡ sets start at (bytes_of 4 n)
    → Put (flat (map row_bytes rows)) mid out (at + 4) next → Put (bytes_of_part rows) start out at next
unfolding bytes_of_part
part-put rows n start mid out at next e f p =
    let count = bytes_of 4 (length rows) in
    let k = length-bytes 4 (length rows) in
    record {
      written = sets_then start mid out at (at + 4) count (flat (map row_bytes rows)) (f ∙ ap (λ (z : ℕ). sets start at (bytes_of 4 z)) e) p.written (omega arith);
      next? = omega (arith, p.next?, length-append count (flat (map row_bytes rows)));
    }

pub part_length : (rows : List Row) → length (bytes_of_part rows) ≡ 4 + length (flat (map row_bytes rows))
unfolding bytes_of_part
part_length rows = omega (arith, length-append (bytes_of 4 (length rows)) (flat (map row_bytes rows)), length-bytes 4 (length rows))
