-- `sizing::judge_list`: the entries, then the words. Assumes nothing.
use Rattle.sizing.proofs.Judging.{words_refused}
use Rattle.sizing.proofs.judge_list.Goals as goal

pub returns-then-words-rows : goal.returns-then-words-rows
returns-then-words-rows c = words_refused _ _ _ c.in_ok-list_rules.ensures _ c.requires.rows_value c.if-words-rows.true _ c.into.ensures
