-- `sound::survey`: room in the tables that are local. Assumes nothing.
use native.Mathlib.Omega.{arith}
use Rattle.residence.proofs.covered.Marks.{zeros_at}
use Rattle.sound.proofs.survey.Goals as goal

pub examine-requires : goal.examine-requires
examine-requires c =
    record {
      index = c.requires;
      covered_room = omega arith;
      blank = λ g. zeros_at 21846 g;
      ord_room = omega arith;
    }
