-- The exit status of the command, as a digit. Assumes nothing.
use Rattle.std.specs.Prelude.{ℕ, List, codes}
use Rattle.reasons.specs.declared.status.Status.{Status}
use Rattle.reasons.specs.declared.status.Status.TheVariants.{Done, Refused, Failed}

abbrev pub digit_of : Status → List ℕ
digit_of Done = codes "0"
digit_of Refused = codes "1"
digit_of Failed = codes "2"
