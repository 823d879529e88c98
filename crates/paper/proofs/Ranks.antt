-- The lists of the rules are in the order of their ranks, and hold every rule: what is judged before a rule is what has a lesser rank.
-- Assumes nothing.
use Prim.Native.Nat.{ℕ}
use mathlib.Core.Path.{◌≡◌, refl, sym, ap, ◌∙◌}
use mathlib.Core.List.{[], ◌∷◌, map}
use lib.ListN.{get_or}
use Rattle.paper.specs.declared.Rule.{Rule}
use Rattle.paper.specs.declared.Rule.TheVariants.{Fields, Order, Boundary, Copies, Residence, Owner}
use Rattle.paper.specs.declared.EntryRule.{EntryRule}
use Rattle.paper.specs.declared.EntryRule.TheVariants.{Whole, Destination, Known, Object}
use Rattle.paper.specs.Sound.{rules, rank_of}
use Rattle.paper.specs.Move.{entry_rules, entry_rank}
use Rattle.paper.proofs.Outcomes.{Leads, here, later}

-- a rank is the place in the list
rank_is_place : map rank_of rules ≡ 0 ∷ 1 ∷ 2 ∷ 3 ∷ 4 ∷ 5 ∷ []
rank_is_place = refl

entry_rank_is_place : map entry_rank entry_rules ≡ 0 ∷ 1 ∷ 2 ∷ 3 ∷ []
entry_rank_is_place = refl

pub ranked : (rule : Rule) → Leads rank_of rule rules
ranked Fields = here
ranked Order = later tt here
ranked Boundary = later tt (later tt here)
ranked Copies = later tt (later tt (later tt here))
ranked Residence = later tt (later tt (later tt (later tt here)))
ranked Owner = later tt (later tt (later tt (later tt (later tt here))))

pub entry_ranked : (rule : EntryRule) → Leads entry_rank rule entry_rules
entry_ranked Whole = here
entry_ranked Destination = later tt here
entry_ranked Known = later tt (later tt here)
entry_ranked Object = later tt (later tt (later tt here))

-- a rank has one rule
rule_at : (rule : Rule) → get_or rules (rank_of rule) Fields ≡ rule
rule_at Fields = refl
rule_at Order = refl
rule_at Boundary = refl
rule_at Copies = refl
rule_at Residence = refl
rule_at Owner = refl

pub one_rank : (q r : Rule) → rank_of q ≡ rank_of r → q ≡ r
one_rank q r e = sym (rule_at q) ∙ ap (λ (k : ℕ). get_or rules k Fields) e ∙ rule_at r

entry_rule_at : (rule : EntryRule) → get_or entry_rules (entry_rank rule) Whole ≡ rule
entry_rule_at Whole = refl
entry_rule_at Destination = refl
entry_rule_at Known = refl
entry_rule_at Object = refl

pub one_entry_rank : (q r : EntryRule) → entry_rank q ≡ entry_rank r → q ≡ r
one_entry_rank q r e = sym (entry_rule_at q) ∙ ap (λ (k : ℕ). get_or entry_rules k Whole) e ∙ entry_rule_at r
