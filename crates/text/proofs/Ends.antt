-- The listing as a whole: which text it is, what the answer says of the buffer, that it says it of one answer only, and how long a buffer
-- is long enough. Assumes nothing.
use Prim.Native.Nat.{ℕ, suc, ◌+◌, ◌≤◌, ◌<◌}
use native.Mathlib.Omega.{arith}
use mathlib.Core.Path.{◌≡◌, refl, sym, ap, ◌∙◌}
use mathlib.Core.Bool.{Bool, cond}
use mathlib.Core.List.{List, [], ◌∷◌, ◌++◌, append-nil}
use Rattle.std.specs.Prelude.{Option, None, Some}
use lib.ListN.{length, take, drop, length-append, take-append-drop, drop_of_length-le}
use lib.Seq.{sets, set_out, length-take-le}
use lib.Dec.{T}
use lib.Pow.{are_bytes}
use borrow.Author.Tests.{lt-ltb, le-ltb}
use Rattle.laws.proofs.Stores.{sets_append, sets_front}
use Rattle.paper.specs.Sound.{sound_of}
use Rattle.paper.specs.Listing.{answer_text, too_long, max_listing, listing_of}
use Rattle.decimal.specs.Writing.{Wrote}
use Rattle.text.specs.Listed.{Whole, Listed}
use Rattle.decimal.proofs.Runs.{wrote_same}
use Rattle.text.proofs.answers.Sizes.{listing_length}

-- ---- which text

pub listing_long : (b : List ℕ) → max_listing < length b → too_long ≡ listing_of b
unfolding listing_of
listing_long b h = sym (ap (λ (t : Bool). cond t too_long (answer_text (sound_of b))) (lt-ltb max_listing (length b) h))

pub listing_read : (b : List ℕ) → length b ≤ max_listing → answer_text (sound_of b) ≡ listing_of b
unfolding listing_of
listing_read b h = sym (ap (λ (t : Bool). cond t too_long (answer_text (sound_of b))) (le-ltb max_listing (length b) h))

-- ---- a run of stores from the front

sets_past : (l : List ℕ) (i : ℕ) (xs : List ℕ) → length l ≤ i → sets l i xs ≡ l
sets_past l i [] h = refl
sets_past l i (x ∷ xs) h = ap (λ (m : List ℕ). sets m (suc i) xs) (set_out l i x h) ∙ sets_past l (suc i) xs (omega arith)

front_cut : (l xs : List ℕ) → length l ≤ length xs → sets l 0 xs ≡ take (length l) xs
front_cut l xs h =
    let n = length l in
    let same : length (take n xs) ≡ n = length-take-le n xs h in
    ap (sets l 0) (sym (take-append-drop n xs)) ∙ sets_append l 0 (take n xs) (drop n xs)
    ∙ ap (λ (m : List ℕ). sets m (0 + length (take n xs)) (drop n xs))
    (sets_front l (take n xs) (omega arith) ∙ ap (λ (m : List ℕ). take n xs ++ m) (drop_of_length-le l {i = length (take n xs)} (omega arith)) ∙ append-nil (take n xs))
    ∙ sets_past (take n xs) (0 + length (take n xs)) (drop n xs) (omega arith)

-- ---- what the answer says

module _ (b : List ℕ) {out out' : List ℕ} {to : ℕ} (wrote : Wrote out 0 (listing_of b) out' to) where
  pub ends_short : length out' < to → Listed b out out' None
  unfolding Listed
  ends_short h = record {
    short = omega (arith, h, wrote.next, wrote_same wrote);
    bytes = wrote.bytes ∙ front_cut out (listing_of b) (omega (arith, h, wrote.next, wrote_same wrote));
  }

  pub ends_whole : to ≤ length out' → Listed b out out' (Some to)
  unfolding Listed
  ends_whole h =
      let e : length (listing_of b) ≡ to = omega (arith, wrote.next) in
      record {
        count = sym e;
        room = omega (arith, h, wrote_same wrote);
        bytes = wrote.bytes ∙ sets_front out (listing_of b) (omega (arith, h, e, wrote_same wrote)) ∙ ap (λ (k : ℕ). listing_of b ++ drop k out) e;
      }

-- no second answer, and no second content of the buffer, meets the contract
pub listed_unique : (b out out₁ out₂ : List ℕ) (r₁ r₂ : Option ℕ) → Listed b out out₁ r₁ → Listed b out out₂ r₂ → (r₁ ≡ r₂) × (out₁ ≡ out₂)
unfolding Listed
listed_unique b out out₁ out₂ (Some k₁) (Some k₂) w₁ w₂ =
    let e : k₁ ≡ k₂ = w₁.count ∙ sym w₂.count in
    (ap Some e, w₁.bytes ∙ ap (λ (k : ℕ). listing_of b ++ drop k out) e ∙ sym w₂.bytes)
listed_unique b out out₁ out₂ (Some k₁) None w₁ w₂ = absurd (omega (arith, w₁.count, w₁.room, w₂.short))
listed_unique b out out₁ out₂ None (Some k₂) w₁ w₂ = absurd (omega (arith, w₂.count, w₂.room, w₁.short))
listed_unique b out out₁ out₂ None None w₁ w₂ = (refl, w₁.bytes ∙ sym w₂.bytes)

-- 262,144 bytes are enough for any input
pub never_short : (b out out' : List ℕ) → T (are_bytes b) → 262144 ≤ length out → Listed b out out' None → ⊥
unfolding Listed
never_short b out out' bytes enough cut = omega (arith, enough, cut.short, listing_length b bytes)

-- what the answer counts stands in the buffer
pub listed_room : (b out out' : List ℕ) (r : Option ℕ) (k : ℕ) → r ≡ Some k → Listed b out out' r → k ≤ length out'
unfolding Listed
listed_room b out out' r k e listed = go (rw e at listed)
  where
    go : Whole (listing_of b) out out' k → k ≤ length out'
    go w = omega (arith, w.count, ap length w.bytes, length-append (listing_of b) (drop k out))
