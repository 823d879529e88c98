-- `sound::examine`: the head, the walk, the rules. Assumes nothing.
use mathlib.Core.Path.{◌≡◌, sym}
use native.Mathlib.Omega.{arith}
use Rattle.std.proofs.Common.{rules, Some, None}
use Rattle.std.proofs.lemmas.Result.{err_from_is_err_and}
use Rattle.paper.specs.declared.Unplaced.TheVariants.{NotFilled}
use Rattle.index.proofs.HeadLaws.{headed}
use Rattle.index.proofs.Answers.{whole, not_whole}
use Rattle.sound.proofs.Examining.{index_of, head_refused, walk_refused, rules_refused, rules_sound}
use Rattle.sound.proofs.examine.Goals as goal

pub returns-in_err-head : goal.returns-in_err-head
returns-in_err-head c =
    let refusal = err_from_is_err_and c.from_residual.result c.from_residual.ensures.1 in
    rw refusal.1 (head_refused _ _ refusal.2 c.in_err-head.ensures)

pub returns-in_err-rows : goal.returns-in_err-rows
returns-in_err-rows c =
    let refusal = err_from_is_err_and c.from_residual-in_err-rows.result c.from_residual-in_err-rows.ensures.1 in
    let none : c.walk.result ≡ None = grind arith in
    let reason : c.in_err-rows.field-0.0 ≡ NotFilled = grind arith in
    rw refusal.1 (walk_refused _ _ refusal.2 c.in_ok-head.ensures (not_whole c.walk.ensures none) reason)

pub byte_at-parts-requires : goal.byte_at-parts-requires
byte_at-parts-requires c = omega (arith, (headed _ (sym c.in_ok-head.ensures)).long)

pub invariant_of-tables-clause-indexed : goal.invariant_of-tables-clause-indexed
invariant_of-tables-clause-indexed c =
    let some : c.walk.result ≡ Some c.in_ok-rows.rows = search rules in
    index_of (whole c.walk.ensures some) c.byte_at-parts.ensures.0

pub all_rules-requires-clause-named : goal.all_rules-requires-clause-named
all_rules-requires-clause-named c =
    let some : c.walk.result ≡ Some c.in_ok-rows.rows = search rules in
    (whole c.walk.ensures some).names

pub returns-in_err-entities : goal.returns-in_err-entities
returns-in_err-entities c =
    let some : c.walk.result ≡ Some c.in_ok-rows.rows = search rules in
    let refused = rules_refused (whole c.walk.ensures some) c.in_ok-head.ensures c.in_err-entities.ensures in
    search rules

pub returns : goal.returns
returns c =
    let some : c.walk.result ≡ Some c.in_ok-rows.rows = search rules in
    rules_sound (whole c.walk.ensures some) c.in_ok-head.ensures (index_of (whole c.walk.ensures some) c.byte_at-parts.ensures.0) c.in_ok-entities.ensures

pub invariant_of-tables-clause-bytes : goal.invariant_of-tables-clause-bytes
invariant_of-tables-clause-bytes c i = omega (arith, c.type_inv.image i)
