-- Writers one after another: two in a row are one, and a loop goes on with what is left to write. Assumes nothing.
use Prim.Native.Nat.{ℕ, ◌+◌, ◌≤◌, ◌<◌}
use native.Mathlib.Numerals.{add-one}
use native.Mathlib.Omega.{arith}
use mathlib.Core.Path.{◌≡◌, refl, sym, ap, ap₂, ◌∙◌}
use mathlib.Core.List.{List, [], ◌++◌, map}
use lib.ListN.{length, drop, length-append, drop_of_length-le}
use lib.Seq.{sets, length-sets, drop-cons}
use Rattle.laws.specs.Lists.{flat, up_to}
use Rattle.laws.proofs.Ranges.{length_up_to, get_or_up_to}
use Rattle.laws.proofs.Stores.{sets_append, sets_then}
use Rattle.decimal.specs.Writing.{Room, Wrote}

-- a text is one run of bytes and then another
pub record Splits (text xs ys : List ℕ) : Type 0 where
  pub is : text ≡ xs ++ ys

-- ---- two writers in a row

pub wrote_same : {out : List ℕ} {at : ℕ} {bs out' : List ℕ} {to : ℕ} → Wrote out at bs out' to → length out' ≡ length out
wrote_same {out} {at} {bs} w = ap length w.bytes ∙ length-sets out at bs

-- the same bytes by another name
pub wrote_as : {out : List ℕ} {at : ℕ} {xs ys out' : List ℕ} {to : ℕ} → xs ≡ ys → Wrote out at xs out' to → Wrote out at ys out' to
wrote_as {out} {at} e w = record { bytes = w.bytes ∙ ap (sets out at) e; next = w.next ∙ ap (λ (l : List ℕ). at + length l) e }

pub room_as : {at : ℕ} {xs ys : List ℕ} → xs ≡ ys → Room at xs → Room at ys
room_as {at} {xs} {ys} e room = record { end = omega (arith, room.end, ap length e) }

module _ {text xs ys : List ℕ} (split : Splits text xs ys) where
  pub room_first : {at : ℕ} → Room at text → Room at xs
  room_first room = record { end = omega (arith, room.end, ap length split.is, length-append xs ys) }

  pub room_next : {out : List ℕ} {at : ℕ} {mid : List ℕ} {j : ℕ} → Room at text → Wrote out at xs mid j → Room j ys
  room_next room w = record { end = omega (arith, room.end, w.next, ap length split.is, length-append xs ys) }

  pub wrote_both : {out : List ℕ} {at : ℕ} {mid : List ℕ} {j : ℕ} {out' : List ℕ} {to : ℕ} → Wrote out at xs mid j → Wrote mid j ys out' to → Wrote out at text out' to
  wrote_both {out} {at} {mid} {j} {out'} w v = record {
    bytes = sets_then out mid out' at j xs ys w.bytes v.bytes w.next ∙ sym (ap (sets out at) split.is);
    next = omega (arith, w.next, v.next, ap length split.is, length-append xs ys);
  }

-- ---- what is left to write from here gives what was to be written

pub record Left (start : List ℕ) (at : ℕ) (text out : List ℕ) (to : ℕ) (rest : List ℕ) : Type 0 where
  pub same : length out ≡ length start
  pub bytes : sets out to rest ≡ sets start at text
  pub end : to + length rest ≡ at + length text

pub left_all : {out : List ℕ} {at : ℕ} {text rest : List ℕ} → rest ≡ text → Left out at text out at rest
left_all {out} {at} e = record { same = refl; bytes = ap (sets out at) e; end = ap (λ (l : List ℕ). at + length l) e }

module _ {start : List ℕ} {at : ℕ} {text out : List ℕ} {to : ℕ} {rest : List ℕ} (left : Left start at text out to rest) where
  pub left_done : rest ≡ [] → Wrote start at text out to
  left_done e = record { bytes = sym (ap (sets out to) e) ∙ left.bytes; next = omega (arith, left.end, ap length e) }

  module _ {xs more : List ℕ} (split : Splits rest xs more) where
    pub left_room : Room at text → Room to xs
    left_room room = record { end = omega (arith, room.end, left.end, ap length split.is, length-append xs more) }

    pub left_next : {out' : List ℕ} {to' : ℕ} → Wrote out to xs out' to' → Left start at text out' to' more
    left_next {out'} {to'} w = record {
      same = wrote_same w ∙ left.same;
      bytes = ap₂ (λ (l : List ℕ) (i : ℕ). sets l i more) w.bytes w.next
          ∙ sym (ap (sets out to) split.is ∙ sets_append out to xs more) ∙ left.bytes;
      end = omega (arith, w.next, left.end, ap length split.is, length-append xs more);
    }

-- ---- a text for each number below n

module _ (f : ℕ → List ℕ) (n : ℕ) where
  -- those from i on
  unfoldable pub texts_from : ℕ → List ℕ
  texts_from i = flat (map f (drop i (up_to n)))

  pub texts_all : texts_from 0 ≡ flat (map f (up_to n))
  unfolding texts_from
  texts_all = refl

  pub texts_next : (i : ℕ) → i < n → Splits (texts_from i) (f i) (texts_from (i + 1))
  unfolding texts_from flat
  texts_next i h = record {
    is =
        ap (λ (l : List ℕ). flat (map f l)) (drop-cons (up_to n) i 0 (omega (arith, length_up_to n)))
        ∙ ap₂ (λ (x k : ℕ). f x ++ flat (map f (drop k (up_to n)))) (get_or_up_to n i 0 h) (sym (add-one i));
  }

  pub texts_end : (i : ℕ) → n ≤ i → texts_from i ≡ []
  unfolding texts_from flat
  texts_end i h = ap (λ (l : List ℕ). flat (map f l)) (drop_of_length-le (up_to n) {i = i} (omega (arith, length_up_to n)))
