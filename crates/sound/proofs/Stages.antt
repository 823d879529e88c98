-- The check in stages: where the rules before a rule pass, a fault under it is the paper's refusal, and where all pass the set is accepted.
-- Assumes nothing.
use Prim.Native.Nat.{ℕ, suc, ◌<◌}
use native.Mathlib.Nat.{eq-or-lt_of_le}
use native.Mathlib.Omega.{arith}
use mathlib.Core.Path.{◌≡◌, sym, ap, ◌∙◌, subst}
use mathlib.Core.Logic.{⊎_elim}
use mathlib.Core.Option.{some}
use Rattle.std.specs.Prelude.{Ok, Err}
use Rattle.paper.specs.declared.Rule.{Rule}
use Rattle.paper.specs.declared.Rule.TheVariants.{Fields, Order, Boundary, Copies, Residence, Owner}
use Rattle.paper.specs.declared.Refusal.{Refusal}
use Rattle.paper.specs.Outcome.{Place, refusal, refused}
use Rattle.paper.specs.Image.{Set}
use Rattle.paper.specs.Sound.{judged, number_of, rank_of, first_fault_of}
use Rattle.paper.proofs.Outcomes.{as_refused}
use Rattle.paper.proofs.Ranks.{one_rank}
use Rattle.demands.specs.Passed.{Passed, PassedAhead, PassedThrough, AllPassed}
use Rattle.demands.proofs.Rows.Faults.{rules_stop}
use Rattle.sound.specs.Stages.{UpTo}

module _ (S : Set) where
  pub nothing_ahead : PassedAhead Fields S
  nothing_ahead rule h = absurd (omega arith)

  -- where the rules up to one pass, those before the next pass
  pub next : (rule after : Rule) → rank_of after ≡ suc (rank_of rule) → PassedThrough rule S → PassedAhead after S
  next last after e through rule h = through rule (omega (arith, e, h))

  pub all_through : PassedThrough Owner S → AllPassed S
  all_through through Fields = through Fields (omega arith)
  all_through through Order = through Order (omega arith)
  all_through through Boundary = through Boundary (omega arith)
  all_through through Copies = through Copies (omega arith)
  all_through through Residence = through Residence (omega arith)
  all_through through Owner = through Owner (omega arith)

  -- ---- one rule judged

  module _ (rule : Rule) (ahead : PassedAhead rule S) where
    pub goes : Passed rule S → UpTo rule S (Ok tt)
    goes pass told h =
        ⊎_elim (λ (e : rank_of told ≡ rank_of rule). subst (λ (r : Rule). Passed r S) (sym (one_rank told rule e)) pass) (λ (l : rank_of told < rank_of rule). ahead told l)
        (eq-or-lt_of_le h)

    pub stops : (r : Refusal) (place : Place) {k : ℕ} → k ≡ number_of rule → r ≡ refusal k place → first_fault_of (judged rule S) 0 S ≡ some place → UpTo rule S (Err r)
    stops r place number e fault =
        rules_stop S rule place ahead fault ∙ ap (λ (k : ℕ). refused k place) (sym number) ∙ sym (as_refused e)
