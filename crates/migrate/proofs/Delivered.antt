-- What migration answers and writes, from what sizing says. Assumes nothing.
use Prim.Native.Nat.{ℕ, ◌≤◌, ◌<◌}
use native.Mathlib.Omega.{arith}
use mathlib.Core.Path.{◌≡◌, sym, ap, ◌∙◌}
use mathlib.Core.List.{List, ◌++◌}
use lib.ListN.{length, drop, replicate}
use lib.Dec.{leb, le→leb}
use Rattle.std.proofs.Common.{Err}
use Rattle.paper.specs.declared.Refusal.{Refusal}
use Rattle.paper.specs.Given.{MigrateAnswer, moved_answer_of}
use Rattle.paper.proofs.Outcomes.{as_refused}
use Rattle.paper.specs.Outcome.{Outcome, nowhere, refusal, place_of, refused, accepted, answered, ◌>>=◌}
use Rattle.paper.specs.Sound.{sound_of}
use Rattle.paper.specs.Move.{Migrated, migrated, size_set, migrate_set, migrate_of, sizes_of, out_after, work_after}
use Rattle.paper.specs.Promises.{Migrates}
use Rattle.paper.proofs.Outcomes.{must_ok, then_ok, bind_ok}
use Rattle.index.specs.Index.{set_in}
use Rattle.plan.specs.Plan.{new_image}
use Rattle.sizing.specs.Sizing.{size_of}
use Rattle.sizing.proofs.Outcomes.{must_fails, then_stops, bind_stops, bind_nested}
use Rattle.sizing.proofs.Amounts.{image_is, bytes_is}
use Rattle.sizing.proofs.Answers.{not_below}
use Rattle.migrate.specs.Delivery.{Delivers, last_of}

-- ---- what `deliver` comes to

module _ (b l out : List ℕ) {bytes rows moved : ℕ} (numbers : sizes_of (migrated (set_in b) l) ≡ record { length = bytes; rows = rows; moved = moved }) where
  new : Migrated
  new = migrated (set_in b) l

  long : bytes ≡ length new.image
  unfolding new
  long = bytes_is b l numbers ∙ ap length (sym (image_is b l))

  pub short_output : length out < bytes → (r : Refusal) → r ≡ refusal 19 nowhere → Delivers (migrated (set_in b) l) out (Err r) out
  unfolding answered out_after new
  short_output h r e =
      let stops : last_of (length out) new ≡ refused r.number (place_of r) =
      then_stops _ _ 19 nowhere (must_fails 19 (leb (length new.image) (length out)) (not_below (length new.image) (length out) (omega (arith, long)))) ∙ sym (as_refused e) in
      record { answer = sym (ap (answered sizes_of) stops); output = sym (ap (λ (o : Outcome Migrated). out_after o out) stops) }

  pub delivered : bytes ≤ length out → (out' : List ℕ) → out' ≡ new_image b l ++ drop (length (new_image b l)) out
      → Delivers (migrated (set_in b) l) out (moved_answer_of bytes rows moved) out'
  unfolding answered out_after new
  delivered h out' w =
      let e : last_of (length out) new ≡ accepted new =
      then_ok _ _ tt (must_ok 19 (leb (length new.image) (length out)) (le→leb (length new.image) (length out) (omega (arith, long)))) in
      record {
        answer = ap accepted (sym numbers) ∙ sym (ap (answered sizes_of) e);
        output = w ∙ ap (λ (x : List ℕ). x ++ drop (length x) out) (sym (image_is b l)) ∙ sym (ap (λ (o : Outcome Migrated). out_after o out) e);
      }

-- ---- migration

module _ (b l : List ℕ) (out work : ℕ) where
  by_size : migrate_of b l out work ≡ (size_of b l work >>= last_of out)
  unfolding migrate_of migrate_set
  by_size = bind_nested (sound_of b) (λ S. size_set S l work) (last_of out)

  size_stops : (r : Refusal) → size_of b l work ≡ refused r.number (place_of r) → migrate_of b l out work ≡ refused r.number (place_of r)
  size_stops r e = by_size ∙ bind_stops (size_of b l work) (last_of out) r.number (place_of r) e

  is_last : size_of b l work ≡ accepted (migrated (set_in b) l) → migrate_of b l out work ≡ last_of out (migrated (set_in b) l)
  is_last e = by_size ∙ bind_ok (size_of b l work) (last_of out) (migrated (set_in b) l) e

-- refused by sizing, or delivered; the working buffer has `words` words, all zero in the end
module _ {b l out : List ℕ} (work : List ℕ) {words : ℕ} (same : words ≡ length work) {work' : List ℕ} (zeros : work' ≡ replicate (length work) 0) where
  pub migrates_not : (r : Refusal) → size_of b l words ≡ refused r.number (place_of r) → Migrates b l out work (Err r) out work'
  unfolding work_after answered out_after
  migrates_not r e =
      let stops = size_stops b l (length out) (length work) r (rw same at e) in
      record { answer = sym (ap (answered sizes_of) stops); output = sym (ap (λ (o : Outcome Migrated). out_after o out) stops); working = zeros }

  pub migrates : {out' : List ℕ} {r : MigrateAnswer} → size_of b l words ≡ accepted (migrated (set_in b) l) → Delivers (migrated (set_in b) l) out r out'
      → Migrates b l out work r out' work'
  unfolding work_after
  migrates e d =
      let last = is_last b l (length out) (length work) (rw same at e) in
      record {
        answer = d.answer ∙ sym (ap (answered sizes_of) last);
        output = d.output ∙ sym (ap (λ (o : Outcome Migrated). out_after o out) last);
        working = zeros;
      }
