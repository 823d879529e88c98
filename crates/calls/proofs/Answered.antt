-- A call taken apart by its answer: the outcome that the paper gives it, and what stands in the buffers. A check too: what it accepts, the
-- theorems about definitions begin from. Assumes nothing.
use Prim.Native.Nat.{ℕ}
use mathlib.Core.Path.{◌≡◌, refl, sym, ap, ◌∙◌, subst}
use mathlib.Core.List.{List, ◌++◌}
use lib.ListN.{length, take, drop}
use lib.Seq.{take_at}
use Rattle.paper.specs.declared.Refusal.{Refusal}
use Rattle.paper.specs.Outcome.{Outcome, refused, accepted, answered, ◌>>=◌}
use Rattle.paper.specs.Image.{Set, row_total}
use Rattle.paper.specs.Sound.{Checked, sound_of, check_of}
use Rattle.paper.specs.Move.{Migrated, Sizes, sizes_of, out_after}
use Rattle.paper.specs.Answers.{migrate_answer}
use Rattle.paper.specs.Outcome.{place_of}
use Rattle.paper.specs.Promises.{Checks}
use Rattle.paper.proofs.Outcomes.{accepted_inj, not_refused, bind_inv}
use Rattle.paper.proofs.Injective.{migrate_one}
use Rattle.demands.specs.History.{answer}
use Rattle.demands.proofs.Theorems.Statements.{Accepts}
use Rattle.calls.specs.Calls.{Call, CallKept, image_left, held, ask, set_or, set_held}
use Rattle.std.specs.Prelude.{Err}
use Rattle.paper.specs.Given.{MigrateAnswer, sound_answer_of, moved_answer_of}

-- ---- what check accepts: its set, and the numbers that check answers

pub record SoundSet (b : List ℕ) (parts rows : ℕ) : Type 0 where
  pub accepts : Accepts b (set_held b)
  pub count : length (set_held b) ≡ parts
  pub total : row_total (set_held b) ≡ rows

pub set_is : (b : List ℕ) (S : Set) → Accepts b S → set_held b ≡ S
unfolding set_held set_or
set_is b S a = ap set_or a

-- the set of an image that the definitions accept
pub set_accepted : (b : List ℕ) → (S : Set) × Accepts b S → Accepts b (set_held b)
set_accepted b w = subst (Accepts b) (sym (set_is b w.0 w.1)) w.1

-- an image for which check answers Sound is one that the definitions accept
pub sound_answer : (b : List ℕ) (parts rows : ℕ) → Checks b (sound_answer_of parts rows) → SoundSet b parts rows
unfolding check_of
sound_answer b parts rows k =
    let w = bind_inv (sound_of b) _ _ (sym k.answer) in
    let is = set_is b w.0 w.1 in
    let said = accepted_inj w.2 in
    record {
      accepts = set_accepted b (w.0, w.1);
      count = ap length is ∙ ap (λ (x : Checked). x.parts) said;
      total = ap row_total is ∙ ap (λ (x : Checked). x.rows) said;
    }

-- and back
pub answer_sound : (b : List ℕ) (S : Set) → Accepts b S → Checks b (sound_answer_of (length S) (row_total S))
unfolding check_of ◌>>=◌
answer_sound b S a = record { answer = sym (ap (λ (o : Outcome Set). o >>= λ S. accepted (record { parts = length S; rows = row_total S })) a) }

-- ---- a call that moved

-- the outcome of a call by what the caller has: the image held, and the numbers of the answer
abbrev pub outcome_by : List ℕ → Call → ℕ → ℕ → Migrated
outcome_by b c rows objects = record { image = held b c; rows = rows; objects_moved = objects }

pub record Moves (b : List ℕ) (c : Call) (n rows objects : ℕ) : Type 0 where
  pub outcome : answer b (ask c) ≡ accepted (outcome_by b c rows objects)
  pub length_is : length (held b c) ≡ n
  pub output : c.out' ≡ held b c ++ drop n c.out

module _ (b : List ℕ) (c : Call) (k : CallKept b c) where
  pub call_moved : (n rows objects : ℕ) → c.answer ≡ moved_answer_of n rows objects → Moves b c n rows objects
  unfolding answered sizes_of out_after image_left
  call_moved n rows objects is = go (answer b (ask c)) refl (sym (ap migrate_answer is) ∙ k.answer) k.output
    where
      go : (o : Outcome Migrated) → answer b (ask c) ≡ o → accepted (record { length = n; rows = rows; moved = objects }) ≡ answered sizes_of o
          → c.out' ≡ out_after o c.out → Moves b c n rows objects
      go (refused j p) e said left = absurd (not_refused (sym said))
      go (accepted m) e said left =
          let same = accepted_inj (sym said) in
          let long : length m.image ≡ n = ap (λ (x : Sizes). x.length) same in
          let new : c.out' ≡ m.image ++ drop n c.out = left ∙ ap (λ (i : ℕ). m.image ++ drop i c.out) long in
          let image : m.image ≡ held b c =
          sym (ap (λ (r : MigrateAnswer). image_left b r c.out') is ∙ ap (take n) new ∙ take_at m.image (drop n c.out) n long) in
          record {
            outcome = e ∙ λ i. accepted (record { image = image i; rows = (same i).rows; objects_moved = (same i).moved });
            length_is = ap length (sym image) ∙ long;
            output = new ∙ ap (λ (x : List ℕ). x ++ drop n c.out) image;
          }

  -- where the paper accepts, the call answers its numbers and the caller holds its image
  pub call_moves : (m : Migrated) → answer b (ask c) ≡ accepted m → (c.answer ≡ moved_answer_of (length m.image) m.rows m.objects_moved) × (held b c ≡ m.image)
  unfolding answered sizes_of
  call_moves m e =
      let is = migrate_one c.answer (moved_answer_of (length m.image) m.rows m.objects_moved) (k.answer ∙ ap (answered sizes_of) e) in
      (is, ap (λ (x : Migrated). x.image) (accepted_inj (sym (call_moved (length m.image) m.rows m.objects_moved is).outcome ∙ e)))

  -- ---- a call that was refused

  pub call_refused : (r : Refusal) → c.answer ≡ Err r → answer b (ask c) ≡ refused r.number (place_of r)
  unfolding answered
  call_refused r is = go (answer b (ask c)) (sym (ap migrate_answer is) ∙ k.answer)
    where
      go : (o : Outcome Migrated) → refused r.number (place_of r) ≡ answered sizes_of o → o ≡ refused r.number (place_of r)
      go (refused j p) e = cc
      go (accepted m) e = absurd (not_refused e)
