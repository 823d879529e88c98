-- One answer only: two answers that meet the promise of a public function are equal, and so is each lent buffer afterwards.
-- Assumes nothing.
use Prim.Native.Nat.{ℕ}
use mathlib.Core.Path.{◌≡◌, sym, ◌∙◌}
use mathlib.Core.List.{List}
use Rattle.paper.specs.Promises.{Checks, Migrates, LooksUp, Bounds}
use Rattle.paper.proofs.Injective.{check-one, migrate_one, lookup-one, box-one}
use Rattle.paper.specs.Given.{CheckAnswer, MigrateAnswer, LookupAnswer, BoxAnswer}

pub checks_one : {image : List ℕ} {r r' : CheckAnswer} → Checks image r → Checks image r' → r ≡ r'
checks_one {r} {r'} c c' = check-one r r' (c.answer ∙ sym c'.answer)

pub migrates_one : {image list out work : List ℕ} {r r' : MigrateAnswer} {out₁ work₁ out₂ work₂ : List ℕ}
    → Migrates image list out work r out₁ work₁ → Migrates image list out work r' out₂ work₂ → (r ≡ r') × (out₁ ≡ out₂) × (work₁ ≡ work₂)
migrates_one {r} {r'} c c' =
    (migrate_one r r' (c.answer ∙ sym c'.answer), c.output ∙ sym c'.output, c.working ∙ sym c'.working)

pub looks_up_one : {image : List ℕ} {dimension number : ℕ} {r r' : LookupAnswer} → LooksUp image dimension number r → LooksUp image dimension number r' → r ≡ r'
looks_up_one {r} {r'} c c' = lookup-one r r' (c.answer ∙ sym c'.answer)

pub bounds-one : {image : List ℕ} {part : ℕ} {r r' : BoxAnswer} → Bounds image part r → Bounds image part r' → r ≡ r'
bounds-one {r} {r'} c c' = box-one r r' (c.answer ∙ sym c'.answer)
