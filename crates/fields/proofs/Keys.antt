-- Rule 8 by the keys of the rows. Assumes nothing.
use Prim.Native.Nat.{ℕ, zero, suc, ◌+◌, ◌-◌, ◌<◌}
use native.Mathlib.Omega.{arith}
use mathlib.Core.Path.{◌≡◌, refl}
use mathlib.Core.List.{List, []}
use lib.ListN.{length, get_or}
use borrow.Author.Tests.{ne_eqb}
use Rattle.paper.specs.Image.{row_at}
use Rattle.paper.specs.Sound.{ordered}
use Rattle.index.specs.Index.{set_in, Named}
use Rattle.paper.specs.declared.Rule.TheVariants.{Order}
use Rattle.paper.specs.Sound.{judged}
use Rattle.fields.specs.Order.{key_ascends}

-- the keys that ascend are the names of rows in order
pub keys_judged : {b starts keys : List ℕ} → Named b starts keys → (p s : ℕ) → s < length (get_or (set_in b) p []) → key_ascends keys starts p s ≡ judged Order (set_in b) p s
unfolding key_ascends judged ordered row_at
keys_judged named p zero h = refl
keys_judged {starts} named p (suc s) h =
    let e : get_or starts p 0 + suc s - 1 ≡ get_or starts p 0 + s = omega arith in
    rw (ne_eqb (suc s) 0 (λ e. omega (arith, e)), e, named.key p s (omega arith), named.key p (suc s) h)
