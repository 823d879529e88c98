-- The buffer has the length of its type, by a law: to compute the length would walk a million elements. Assumes nothing.
use Rattle.std.proofs.Common.{ℕ, sym}
use lib.ListN.{length-replicate}
use Rattle.command.proofs.room.for_file.Goals as goal

pub returns : goal.returns
returns c = sym (length-replicate {A = ℕ} 1048577 0)
