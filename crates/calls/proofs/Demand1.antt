-- DEMAND 1 of a call: "Every entry point takes anything a caller can hand it and comes back with an answer or a numbered refusal. None trusts
-- an earlier check. A refused call writes no output byte, clears the working buffer and names the first place at fault."
-- b is any list, c any call on it: nothing is asked of either but that the promise is kept. Assumes nothing.
use Prim.Native.Nat.{ℕ}
use mathlib.Core.Path.{◌≡◌, ap, ◌∙◌}
use mathlib.Core.List.{List}
use lib.ListN.{length, replicate}
use Rattle.paper.specs.declared.Refusal.{Refusal}
use Rattle.paper.specs.Outcome.{Outcome, Place, refused, accepted, answered, ◌>>=◌}
use Rattle.paper.specs.Image.{Set, row_total}
use Rattle.paper.specs.Sound.{Checked, sound_of, check_of}
use Rattle.paper.specs.Move.{migrate_of, sizes_of, out_after, work_after}
use Rattle.paper.specs.Lookup.{lookup_of}
use Rattle.paper.specs.Box.{box_asked}
use Rattle.paper.specs.Outcome.{place_of}
use Rattle.paper.specs.Promises.{Checks, LooksUp, Bounds}
use Rattle.paper.proofs.Outcomes.{not_refused}
use Rattle.paper.proofs.Injective.{migrate_one, lookup-one, box-one}
use Rattle.demands.proofs.Theorems.Statements.{Iff}
use Rattle.calls.specs.Calls.{Call, CallKept}
use Rattle.calls.proofs.Answered.{call_refused}
use Rattle.std.specs.Prelude.{Err}
use Rattle.paper.specs.Given.{LookupAnswer, BoxAnswer}

module _ (b : List ℕ) (c : Call) (k : CallKept b c) where
  -- "a numbered refusal .. names the first place at fault": exactly where the paper refuses, with its number and its place
  pub refused_as_paper : (r : Refusal) → Iff (c.answer ≡ Err r) (migrate_of b c.list (length c.out) (length c.work) ≡ refused r.number (place_of r))
  unfolding answered
  refused_as_paper r = (call_refused b c k r, λ e. migrate_one c.answer (Err r) (k.answer ∙ ap (answered sizes_of) e))

  -- "A refused call writes no output byte"
  pub refused_writes_nothing : (r : Refusal) → c.answer ≡ Err r → c.out' ≡ c.out
  unfolding out_after
  refused_writes_nothing r is = k.output ∙ ap (λ o. out_after o c.out) (call_refused b c k r is)

  -- "clears the working buffer", as every call does
  pub working_cleared : c.work' ≡ replicate (length c.work) 0
  unfolding work_after
  working_cleared = k.working

-- ---- "None trusts an earlier check": what check refuses, every function refuses with the same number and place

stops : {A B : Type 0} (o : Outcome A) (f : A → Outcome B) (n : ℕ) (at : Place) → o ≡ refused n at → (o >>= f) ≡ refused n at
unfolding ◌>>=◌
stops o f n at e = ap (λ x. x >>= f) e

module _ (b : List ℕ) (r : Refusal) (k : Checks b (Err r)) where
  not_sound : sound_of b ≡ refused r.number (place_of r)
  unfolding check_of ◌>>=◌
  not_sound = go (sound_of b) k.answer
    where
      go : (o : Outcome Set) → ◌≡◌ {A = Outcome Checked} (refused r.number (place_of r)) (o >>= λ S. accepted (record { parts = length S; rows = row_total S }))
          → o ≡ refused r.number (place_of r)
      go (refused j p) e = cc
      go (accepted S) e = absurd (not_refused e)

  pub unsound_not_moved : (c : Call) → CallKept b c → c.answer ≡ Err r
  unfolding migrate_of
  unsound_not_moved c kept = (refused_as_paper b c kept r).1 (stops (sound_of b) _ r.number (place_of r) not_sound)

  pub unsound_not_found : (dimension number : ℕ) (a : LookupAnswer) → LooksUp b dimension number a → a ≡ Err r
  unfolding lookup_of
  unsound_not_found dimension number a kept = lookup-one a (Err r) (kept.answer ∙ stops (sound_of b) _ r.number (place_of r) not_sound)

  pub unsound_no_box : (part : ℕ) (a : BoxAnswer) → Bounds b part a → a ≡ Err r
  unfolding box_asked
  unsound_no_box part a kept = box-one a (Err r) (kept.answer ∙ stops (sound_of b) _ r.number (place_of r) not_sound)
