-- The 24 bytes of a body: coordinates as bits, or slots and zeros.
-- Assumes nothing.
use Prim.Native.Nat.{ℕ, suc, ◌+◌, ◌-◌, ◌*◌, ◌≤◌}
use native.Mathlib.Omega.{arith}
use mathlib.Core.Path.{◌≡◌, sym, ap, ◌∙◌}
use mathlib.Core.List.{List, [], ◌++◌, map, append-nil}
use lib.ListN.{length, drop, replicate, length-drop, drop_of_length-le}
use lib.Dec.{T, eqb}
use lib.Pow.{are_bytes}
use Rattle.laws.specs.Lists.{every, flat}
use Rattle.field.specs.Bytes.{words, longs, bytes_of}
use Rattle.laws.proofs.Zeros.{zeros}
use Rattle.demands.proofs.Rows.Bytes.{longs_forth}
use Rattle.field.proofs.Reading.{words_forth}

-- ---- a vertex

pub vertex_body : (body : List ℕ) → T (are_bytes body) → length body ≡ 24 → flat (map (bytes_of 8) (longs 3 body)) ≡ body
vertex_body body y n =
    let nothing : drop 24 body ≡ [] = drop_of_length-le body {i = 24} (omega arith) in
    sym (append-nil (flat (map (bytes_of 8) (longs 3 body)))) ∙ ap (λ (l : List ℕ). flat (map (bytes_of 8) (longs 3 body)) ++ l) (sym nothing)
    ∙ longs_forth 3 body y (omega arith)

-- ---- slots, then zeros

pub slots_body : (d : ℕ) (body : List ℕ) → T (are_bytes body) → length body ≡ 24 → d ≤ 2 → T (every (eqb 0) (drop (4 * (d + 2)) body))
    → flat (map (bytes_of 4) (words (suc (suc d)) body)) ++ replicate (24 - 4 * (d + 2)) 0 ≡ body
slots_body d body y n h t =
    let k : 4 * (d + 2) ≡ 4 * suc (suc d) = omega arith in
    let rest : drop (4 * suc (suc d)) body ≡ replicate (24 - 4 * (d + 2)) 0 =
    ap (λ (i : ℕ). drop i body) (sym k) ∙ zeros (drop (4 * (d + 2)) body) t
    ∙ ap (λ (i : ℕ). replicate i 0) (length-drop (4 * (d + 2)) body ∙ ap (λ (i : ℕ). i - 4 * (d + 2)) n) in
    ap (λ (l : List ℕ). flat (map (bytes_of 4) (words (suc (suc d)) body)) ++ l) (sym rest)
    ∙ words_forth (suc (suc d)) body y (omega arith)
