-- `sound::judge`: a fault is the paper's refusal, and where there is none the rule is passed. Assumes nothing.
use Rattle.sound.proofs.Judging.{turns, clear_passes, fault_is, rule_ahead, rule_passes, rule_fault}
use Rattle.sound.proofs.Stages.{goes, stops}
use Rattle.sound.proofs.judge.Goals as goal

pub first_fault-requires : goal.first_fault-requires
first_fault-requires g c = turns c.requires

pub returns-in-None : goal.returns-in-None
returns-in-None g c = goes _ _ (rule_ahead _ _ c.requires.passed) (rule_passes _ _ (clear_passes _ c.requires.told c.in-None.ensures))

pub returns-in-Some : goal.returns-in-Some
returns-in-Some g c =
    stops _ _ (rule_ahead _ _ c.requires.passed) _ _ c.number.ensures c.at_row.ensures (rule_fault _ _ (fault_is _ c.requires.told c.in-Some.ensures))
