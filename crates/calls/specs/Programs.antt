-- The calls that a program makes when it is lent one list and two buffers after another, each time with the image held. It may do otherwise at a
-- later call than at the first. Assumes nothing.
use Rattle.std.specs.Prelude.{ℕ, suc, List, [], ◌∷◌}
use Rattle.demands.specs.Programs.{Migrator}
use Rattle.calls.specs.Calls.{Call, held}

pub record Lent : Type 0 where
  pub list : List ℕ
  pub out : List ℕ
  pub work : List ℕ

abbrev pub lent : Call → Lent
lent c = record { list = c.list; out = c.out; work = c.work }

abbrev pub call_by : Migrator → List ℕ → Lent → Call
call_by f b l =
    let d = f b l.list l.out l.work in
    record { list = l.list; out = l.out; work = l.work; answer = d.answer; out' = d.out; work' = d.work }

-- from its call number i on
unfoldable pub calls_by : (ℕ → Migrator) → ℕ → List ℕ → List Lent → List Call
calls_by f i b [] = []
calls_by f i b (l ∷ ls) = let c = call_by (f i) b l in c ∷ calls_by f (suc i) (held b c) ls
