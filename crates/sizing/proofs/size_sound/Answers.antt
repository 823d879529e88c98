-- `sizing::size_sound`: the list is judged, the objects placed anew, the rows and bytes summed. Assumes nothing.
use Rattle.field.proofs.Reading.{bytes_all}
use Rattle.sizing.proofs.Answers.{list_refused}
use Rattle.sizing.proofs.Fitting.{long_refused, all_fits}
use Rattle.std.proofs.lemmas.Result.{err_from_is_err_and}
use Rattle.sizing.proofs.size_sound.Goals as goal

pub returns-in_err-judge_list : goal.returns-in_err-judge_list
returns-in_err-judge_list c =
    let p = err_from_is_err_and c.from_residual.result c.from_residual.ensures.1 in
    rw (p.1, p.2) (list_refused _ _ _ c.requires.surveyed.source.sound _ c.in_err-judge_list.ensures)

pub returns-then-bytes-gt-IMAGE_BYTES : goal.returns-then-bytes-gt-IMAGE_BYTES
returns-then-bytes-gt-IMAGE_BYTES c =
    let go = c.in_ok-judge_list.ensures in
    long_refused c.requires.surveyed.source (bytes_all c.args.source.now.tables.image.now c.args.source.now.tables.bytes) go.0 _ go.1 c.relocate-moved.ensures _ c.sizes-sizes.ensures.1 c.if-bytes-gt-IMAGE_BYTES.true _ c.into.ensures

pub returns : goal.returns
returns c =
    let go = c.in_ok-judge_list.ensures in
    all_fits c.requires.surveyed.source (bytes_all c.args.source.now.tables.image.now c.args.source.now.tables.bytes) go.0 _ go.1 c.relocate-moved.ensures _ c.sizes-sizes.ensures.1 c.if-bytes-gt-IMAGE_BYTES.false _ c.sizes-sizes.ensures.0
