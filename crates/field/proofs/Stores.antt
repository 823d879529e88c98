-- A run of stores: a list stored one by one or at once, and what that leaves.
-- Assumes nothing.
use Prim.Native.Nat.{ℕ, zero, suc, ◌+◌, ◌-◌, ◌*◌, ◌/◌, ◌%◌, ◌^◌, ◌≤◌, ◌<◌}
use native.Mathlib.Nat.{add-zero, suc-add, zero-add, div-one}
use native.Mathlib.Omega.{arith}
use mathlib.Core.Path.{◌≡◌, refl, sym, ap, ap₂, ◌∙◌}
use mathlib.Core.List.{List, ◌∷◌, ◌++◌, append_assoc}
use lib.ListN.{length, set, get_or, take, drop, length-set, length-take, length-drop, drop_of_length-le}
use borrow.Rule.Slice.PartMut.{put_mid}
use lib.Seq.{sets, sets-eq, drop-drop, drop-cons, get_or-take, get_or-drop, length-take-le, take_at, drop_at}
use lib.Pow.{shr-shr, mod-mod-pow, field}
use Rattle.field.specs.Bytes.{bytes_of}

-- ---- one by one: what is left to store gives what was to be stored

pub record Storing (start : List ℕ) (at : ℕ) (xs : List ℕ) (i : ℕ) (out : List ℕ) : Type 0 where
  pub same : length out ≡ length start
  pub left : sets out (at + i) (drop i xs) ≡ sets start at xs

module _ {start : List ℕ} {at : ℕ} {xs : List ℕ} where
  pub store_none : Storing start at xs 0 start
  store_none = record { same = refl; left = rw add-zero }

  pub store_more : {i v : ℕ} {out : List ℕ} → Storing start at xs i out → i < length xs → get_or xs i 0 ≡ v → Storing start at xs (i + 1) (set out (at + i) v)
  store_more {i} {v} {out} w h e =
      let a : at + (i + 1) ≡ suc (at + i) = omega arith in
      let b : i + 1 ≡ suc i = omega arith in
      record { same = length-set out (at + i) v ∙ w.same; left = rw (a, b) (rw (drop-cons xs i 0 h, e) at w.left) }

  pub store_done : {i : ℕ} {out : List ℕ} → Storing start at xs i out → length xs ≤ i → out ≡ sets start at xs
  store_done {i} {out} w h = rw (drop_of_length-le xs h) at w.left

-- what a copy stores
module _ (b : List ℕ) (at n : ℕ) (h : at + n ≤ length b) where
  pub length_run : length (take n (drop at b)) ≡ n
  length_run = simp (length-take, length-drop) (omega arith)

  pub get_or_run : (i : ℕ) → i < n → get_or (take n (drop at b)) i 0 ≡ get_or b (at + i) 0
  get_or_run i l = rw (get_or-take, get_or-drop)

-- ---- what a run leaves, and what is read back of it

module _ (l : List ℕ) (i : ℕ) (xs : List ℕ) (h : i + length xs ≤ length l) where
  split : sets l i xs ≡ take i l ++ (xs ++ drop (i + length xs) l)
  split = sets-eq xs l i h ∙ append_assoc (take i l) xs (drop (i + length xs) l)

  front : length (take i l) ≡ i
  front = length-take-le i l (omega arith)

  pub sets_inside : take (length xs) (drop i (sets l i xs)) ≡ xs
  sets_inside =
      ap (λ (b : List ℕ). take (length xs) (drop i b)) split
      ∙ ap (take (length xs)) (drop_at (take i l) (xs ++ drop (i + length xs) l) i front)
      ∙ take_at xs (drop (i + length xs) l) (length xs) refl

-- `out[at..at + n]`, filled with xs
pub put_is : (out xs p : List ℕ) (at n : ℕ) → at + n ≤ length out → length xs ≡ n → p ≡ xs → put_mid at (at + n - at) out p ≡ sets out at xs
put_is out xs p at n h e f =
    let k : at + n - at ≡ length xs = omega (arith, e) in
    ap₂ {C = List ℕ} (λ (m : ℕ) (l : List ℕ). put_mid at m out l) k f
    ∙ ap (λ (l : List ℕ). take at out ++ (xs ++ l)) (drop-drop (length xs) at out)
    ∙ sym (split out at xs (omega arith))

-- ---- a number in w + u bytes is one in w and one in u

pub bytes_cat : (w u n : ℕ) → bytes_of (w + u) n ≡ bytes_of w n ++ bytes_of u (n / 2 ^ (8 * w))
unfolding bytes_of
bytes_cat zero u n = ap₂ bytes_of (zero-add u) (sym (div-one n))
bytes_cat (suc w) u n =
    let e : 8 + 8 * w ≡ 8 * suc w = omega arith in
    ap (λ (k : ℕ). bytes_of k n) (suc-add w u)
    ∙ ap (λ (l : List ℕ). n % 256 ∷ l)
    (bytes_cat w u (n / 256) ∙ ap (λ (x : ℕ). bytes_of w (n / 256) ++ bytes_of u x) (shr-shr n 8 (8 * w) ∙ ap (λ (k : ℕ). n / 2 ^ k) e))

-- and keeps no more of it
pub bytes_mod : (w n : ℕ) → bytes_of w (n % 2 ^ (8 * w)) ≡ bytes_of w n
unfolding bytes_of
bytes_mod zero n = refl
bytes_mod (suc w) n =
    let e : 8 * suc w ≡ 8 * w + 8 = omega arith in
    ap (λ (k : ℕ). bytes_of (suc w) (n % 2 ^ k)) e
    ∙ ap₂ {C = List ℕ} (λ (x : ℕ) (l : List ℕ). x ∷ l) (mod-mod-pow n (8 * w) 8)
    (ap (bytes_of w) (field n (8 * w) 8) ∙ bytes_mod w (n / 256))

pub bytes_halves : (w n : ℕ) → bytes_of w (n % 2 ^ (8 * w)) ++ bytes_of w (n / 2 ^ (8 * w)) ≡ bytes_of (w + w) n
bytes_halves w n = ap (λ (l : List ℕ). l ++ bytes_of w (n / 2 ^ (8 * w))) (bytes_mod w n) ∙ sym (bytes_cat w w n)
