-- A loop or a chain over `parts(mask)`: what it has taken so far, and that what it takes in all are the parts of the set.
-- Assumes nothing.
use Prim.Native.Nat.{ℕ, ◌<◌}
use mathlib.Core.Path.{◌≡◌, sym, ap, ◌∙◌, subst}
use mathlib.Core.List.{List, [], ◌∷◌, ◌++◌}
use lib.ListN.{length}
use lib.Dec.{T}
use Rattle.std.specs.Iterator.{Yields}
use Rattle.std.proofs.lemmas.List.{append-nil}
use Rattle.std.proofs.lemmas.Iterator.{YieldsList}
use Rattle.std.proofs.lemmas.Iterator.Consumers.{YieldsList-from_shown}
use Rattle.laws.specs.Lists.{In}
use Rattle.laws.proofs.Members.{in_left}
use Rattle.part_set.specs.Masks.{has, parts_in, GivesPart}
use Rattle.part_set.proofs.MaskParts.{parts_in_in}
use Rattle.part_set.proofs.Walk.{parts_none}

-- the parts so far, and then those that are left
pub parts_so_far : (xs : List ℕ) (m r : ℕ) → Yields GivesPart m xs r → parts_in m ≡ xs ++ parts_in r
parts_so_far [] m r y = ap parts_in y
parts_so_far (x ∷ xs) m r (j, t, y) = t.parts ∙ ap (λ (l : List ℕ). x ∷ l) (parts_so_far xs j r y)

-- at the end, where none is left, all of them
pub parts_end : (xs : List ℕ) (m r : ℕ) → Yields GivesPart m xs r → r ≡ 0 → xs ≡ parts_in m
parts_end xs m r y e = sym (parts_so_far xs m r y ∙ ap (λ (l : List ℕ). xs ++ l) (ap parts_in e ∙ parts_none) ∙ append-nil xs)

-- each part so far is one of the set's
pub part_so_far : (xs : List ℕ) (m r : ℕ) → Yields GivesPart m xs r → (q : ℕ) → In q xs → (q < 64) × T (has m q)
part_so_far xs m r y q i = parts_in_in m q (subst (λ (l : List ℕ). In q l) (sym (parts_so_far xs m r y)) (in_left q xs (parts_in r) i))

-- a chain from `parts(mask)` takes the parts of the set
pub parts_list : (m : ℕ) → YieldsList GivesPart (λ q. q) m (parts_in m)
parts_list m = YieldsList-from_shown GivesPart (λ q. q) parts_in (λ s t h. ap length (ap parts_in h.0 ∙ parts_none)) (λ s q t h. h.parts) m
