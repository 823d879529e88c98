-- What a plan stands for. Assumes nothing.
use Rattle.std.specs.Prelude.{ℕ, List}
use Rattle.plan.specs.Plan.{new_image}
use Rattle.plan.specs.declared.Plan.{Plan}

-- the new image of a plan
abbrev pub image_of : Plan → List ℕ
image_of p = new_image p.source.tables.image.now p.list.now
