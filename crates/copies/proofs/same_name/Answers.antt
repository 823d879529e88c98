-- `copies::same_name` meets its contract: names are equal only of rows of one dimension. Assumes nothing.
use native.Mathlib.Omega.{arith}
use Rattle.field.proofs.Reading.{bytes_all}
use Rattle.copies.proofs.Compare.{names_compared}
use Rattle.copies.proofs.same_name.Goals as goal

pub returns : goal.returns
returns c =
    let b = c.args.image.now in
    names_compared b _ _ (bytes_all b (λ i. omega (arith, c.type_inv.image i))) c.name_at.ensures c.name_at-2.ensures
