-- `moves::list_rules`: each rule stops the list, or passes and makes it ready for the next. Assumes nothing.
use mathlib.Core.Path.{refl}
use native.Mathlib.Omega.{arith}
use Rattle.std.proofs.lemmas.Result.{err_from_is_err_and}
use Rattle.paper.specs.declared.EntryRule.TheVariants.{Whole, Destination, Known, Object}
use Rattle.index.specs.Index.{set_in}
use Rattle.moves.proofs.Judging.{by_whole, by_destination, by_known, by_object}
use Rattle.moves.proofs.Stages.{stops, goes_on, none_ahead, last_stage, whole_ahead, ascend_behind, parts_ahead}
use Rattle.moves.proofs.list_rules.Goals as goal

pub returns-in_err-all_pass : goal.returns-in_err-all_pass
returns-in_err-all_pass c =
    let S = set_in c.args.image.now in
    let l = c.args.list.now in
    let p = err_from_is_err_and c.from_residual.result c.from_residual.ensures.1 in
    rw (p.1, p.2) (stops Whole S l (none_ahead S l) _ (by_whole S l _ c.first_unfit.ensures) _ c.in_err-all_pass.ensures)

pub first_astray-requires : goal.first_astray-requires
first_astray-requires c = ascend_behind (set_in c.args.image.now) _ _ c.first_unfit.ensures c.in_ok-all_pass.ensures

pub returns-in_err-all_pass-2 : goal.returns-in_err-all_pass-2
returns-in_err-all_pass-2 c =
    let S = set_in c.args.image.now in
    let l = c.args.list.now in
    let ahead = whole_ahead S l _ c.first_unfit.ensures c.in_ok-all_pass.ensures in
    let parts = by_destination S l _ c.requires.image_len _ c.first_astray.ensures in
    let p = err_from_is_err_and c.from_residual-in_err-all_pass-2.result c.from_residual-in_err-all_pass-2.ensures.1 in
    rw (p.1, p.2) (stops Destination S l ahead _ parts _ c.in_err-all_pass-2.ensures)

pub first_unknown-requires : goal.first_unknown-requires
first_unknown-requires c = ascend_behind (set_in c.args.image.now) _ _ c.first_unfit.ensures c.in_ok-all_pass.ensures

pub returns-in_err-all_pass-3 : goal.returns-in_err-all_pass-3
returns-in_err-all_pass-3 c =
    let S = set_in c.args.image.now in
    let l = c.args.list.now in
    let ahead = parts_ahead S l _ c.first_unfit.ensures c.in_ok-all_pass.ensures _ c.requires.image_len _ c.first_astray.ensures c.in_ok-all_pass-2.ensures in
    let known = by_known l c.requires.catalog _ c.first_unknown.ensures in
    let p = err_from_is_err_and c.from_residual-in_err-all_pass-3.result c.from_residual-in_err-all_pass-3.ensures.1 in
    rw (p.1, p.2) (stops Known S l ahead _ known _ c.in_err-all_pass-3.ensures)

pub first_covered-requires-clause-ascending : goal.first_covered-requires-clause-ascending
first_covered-requires-clause-ascending c = ascend_behind (set_in c.args.image.now) _ _ c.first_unfit.ensures c.in_ok-all_pass.ensures

pub returns : goal.returns
returns c =
    let S = set_in c.args.image.now in
    let l = c.args.list.now in
    let ahead = parts_ahead S l _ c.first_unfit.ensures c.in_ok-all_pass.ensures _ c.requires.image_len _ c.first_astray.ensures c.in_ok-all_pass-2.ensures in
    let last = goes_on Known S l Object refl ahead _ (by_known l c.requires.catalog _ c.first_unknown.ensures) _ c.in_ok-all_pass-3.ensures in
    last_stage S l last _ (by_object l c.requires.catalog (last Known (omega arith)) _ c.first_covered.ensures) _ c.all_pass-4.ensures
