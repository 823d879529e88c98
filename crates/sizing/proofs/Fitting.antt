-- Sizing as a whole: the ways out behind the list. Assumes nothing.
use Prim.Native.Nat.{ℕ, ◌+◌, ◌*◌, ◌≤◌, ◌<◌}
use native.Mathlib.Omega.{arith}
use mathlib.Core.Path.{◌≡◌, sym, ◌∙◌}
use mathlib.Core.List.{List}
use lib.ListN.{length}
use lib.Dec.{T}
use lib.Pow.{are_bytes}
use Rattle.slots.specs.Slots.{tab, rows_to, bytes_to}
use Rattle.paper.specs.declared.Refusal.{Refusal}
use Rattle.paper.specs.Outcome.{nowhere, refusal}
use Rattle.paper.proofs.Outcomes.{as_refused}
use Rattle.paper.specs.Image.{row_total}
use Rattle.paper.specs.Sound.{max_image}
use Rattle.paper.specs.Placement.{WellPlaced}
use Rattle.index.specs.Index.{set_in}
use Rattle.demands.specs.Passed.{ListPassed}
use Rattle.plan.specs.Plan.{mesh, placing, new_image, Sourced}
use Rattle.std.proofs.Common.{Ok, Err}
use Rattle.sizing.specs.Sizing.{SizesUp}
use Rattle.sizing.specs.Steps.{Relocated}
use Rattle.sizing.proofs.Placing.{well}
use Rattle.sizing.proofs.Amounts.{rows_are, bytes_are, numbers_are}
use Rattle.sizing.proofs.Answers as answers

module _ {b l offs starts ord ent masks counts : List ℕ} {n m moved : ℕ} (source : Sourced b offs starts ord n m) (is_bytes : T (are_bytes b)) (passed : ListPassed (set_in b) l)
    (work : ℕ) (words : row_total (set_in b) ≤ work) (done : Relocated b l starts ent masks counts moved)
    (bytes : ℕ) (sum : bytes ≡ 8 + 4 * n + bytes_to (tab masks) m) where
  placed : WellPlaced n (mesh b) (placing b l)
  placed = well l source is_bytes passed

  long : bytes ≡ length (new_image b l)
  long = sum ∙ bytes_are source placed done.masked

  pub long_refused : max_image < bytes → (r : Refusal) → r ≡ refusal 18 nowhere → SizesUp b l offs starts ord ent masks counts work (Err r)
  long_refused h r e = answers.too_long b l work source.sound passed words (omega (arith, long)) ∙ sym (as_refused e)

  pub all_fits : bytes ≤ max_image → (rows : ℕ) → rows ≡ rows_to (tab masks) m → SizesUp b l offs starts ord ent masks counts work (Ok (record { parts = n; entities = m; bytes = bytes; rows = rows; moved = moved }))
  all_fits h rows er =
      let small : length (new_image b l) ≤ max_image = omega (arith, long) in
      record {
        passes = answers.passes b l work source.sound passed words small;
        numbers = numbers_are b l bytes rows moved long (er ∙ rows_are source placed done.masked) done.count;
        prepared = record {
          source = source;
          numbered = done.numbered;
          masked = done.masked;
          tallied = done.tallied;
          well = placed;
          small = small;
        };
      }
