-- `sound::check`: the paper's answer. Assumes nothing.
use Rattle.sound.proofs.Examining.{surveyed_checks}
use Rattle.sound.proofs.check.Goals as goal

pub returns : goal.returns
returns c = surveyed_checks _ _ _ _ _ c.survey.ensures
