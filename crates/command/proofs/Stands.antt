-- The new image of a migration stands in the output buffer. Assumes nothing.
use Prim.Native.Nat.{ℕ, ◌≤◌}
use native.Mathlib.Omega.{arith}
use mathlib.Core.Path.{◌≡◌, ap}
use mathlib.Core.List.{List}
use lib.ListN.{length, drop, length-append}
use Rattle.std.specs.Prelude.{Ok}
use Rattle.paper.specs.declared.Moved.{Moved}
use Rattle.paper.specs.Given.{MigrateAnswer}
use Rattle.paper.specs.Outcome.{Outcome, refused, accepted, answered}
use Rattle.paper.specs.Move.{Migrated, Sizes, sizes_of, out_after, migrate_of}
use Rattle.paper.specs.Promises.{Migrates}

-- the length that an accepted answer gives
length_in : Outcome Sizes → ℕ
length_in (refused k p) = 0
length_in (accepted s) = s.length

room_after : (o : Outcome Migrated) (n : ℕ) (out out' : List ℕ) → n ≡ length_in (answered sizes_of o) → out' ≡ out_after o out → n ≤ length out'
unfolding length_in answered sizes_of out_after
room_after (refused k p) n out out' e f = omega (arith, e)
room_after (accepted m) n out out' e f = omega (arith, e, ap length f, length-append m.image (drop (length m.image) out))

pub moved_room : (b l out work out' work' : List ℕ) (r : MigrateAnswer) (m : Moved) → r ≡ Ok m → Migrates b l out work r out' work' → m.length ≤ length out'
unfolding length_in
moved_room b l out work out' work' r m e promise =
    room_after (migrate_of b l (length out) (length work)) m.length out out' (ap length_in (rw e at promise.answer)) promise.output
