-- The rows that parts make, part by part.
-- Assumes nothing.
use Prim.Native.Nat.{ℕ, ◌<◌, ◌≤◌}
use mathlib.Core.Path.{◌≡◌, sym, ap, ◌∙◌, subst}
use mathlib.Core.Bool.{not}
use mathlib.Core.Logic.{◌⊎◌, inl, inr}
use mathlib.Core.List.{List, [], map}
use lib.ListN.{length, get_or, length-map, get_or-eq_default}
use lib.Dec.{T, ltb, ltb→lt, nltb→le}
use Rattle.laws.specs.Lists.{up_to}
use Rattle.paper.specs.Image.{Row}
use Rattle.paper.specs.Mesh.{Parts}
use Rattle.paper.specs.Placement.{row_for, rows_for}
use Rattle.laws.proofs.Tests.{decide}
use Rattle.laws.proofs.Agree.{get_or_map}
use Rattle.laws.proofs.Ranges.{length_up_to, get_or_up_to}

pub rows-count : (ps : Parts) → length (rows_for ps) ≡ length ps
unfolding rows_for
rows-count ps = length-map (up_to (length ps)) (λ p. map (row_for ps p) (get_or ps p [])) ∙ length_up_to (length ps)

pub rows-part : (ps : Parts) (p : ℕ) → get_or (rows_for ps) p [] ≡ map (row_for ps p) (get_or ps p [])
unfolding rows_for
rows-part ps p = go (decide (ltb p (length ps)))
  where
    part : ℕ → List Row
    part p = map (row_for ps p) (get_or ps p [])

    go : T (ltb p (length ps)) ⊎ T (not (ltb p (length ps))) → get_or (map (λ p. map (row_for ps p) (get_or ps p [])) (up_to (length ps))) p [] ≡ map (row_for ps p) (get_or ps p [])
    go (inl t) =
        let h = ltb→lt p (length ps) t in
        get_or_map (λ p. map (row_for ps p) (get_or ps p [])) (up_to (length ps)) p 0 [] (subst (λ (z : ℕ). p < z) (sym (length_up_to (length ps))) h)
        ∙ ap part (get_or_up_to (length ps) p 0 h)
    go (inr t) =
        let h = nltb→le p (length ps) t in
        get_or-eq_default (map part (up_to (length ps))) [] {n = p} (subst (λ (z : ℕ). z ≤ p) (sym (length-map (up_to (length ps)) part ∙ length_up_to (length ps))) h)
        ∙ ap (map (row_for ps p)) (sym (get_or-eq_default ps [] {n = p} h))
