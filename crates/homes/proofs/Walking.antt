-- The walk over the other copies of an entity, on plain values: what is left to do from here makes the whole. Assumes nothing.
use Prim.Native.Nat.{ℕ, ◌+◌, ◌≤◌, ◌<◌}
use native.Mathlib.Omega.{arith}
use mathlib.Core.Path.{◌≡◌, refl, sym, ap, ◌∙◌, subst}
use mathlib.Core.Logic.{inl, inr}
use mathlib.Core.List.{List, ◌∷◌}
use lib.ListN.{length, get_or, set, drop, length-set}
use lib.Bits.{bit_or}
use Rattle.field.specs.Bytes.{u32_at, u64_at}
use Rattle.part_set.specs.Masks.{parts_in, Rest, Turn}
use Rattle.part_set.proofs.Walk.{parts_none}
use Rattle.homes.specs.CopyRows.{copy_rows, joined, numbered, other_rows, CopiesThere, EntityThere}

-- what a turn reads and writes is there: the slot in part q, which names row g
pub record Reads (b starts : List ℕ) (at q g : ℕ) (work ent : List ℕ) : Type 0 where
  pub slot : at + 4 ≤ length b
  pub part : q < length starts
  pub word : g < length work
  pub entry : g < length ent

module _ {b starts : List ℕ} {at : ℕ} {work ent : List ℕ} (q : ℕ) (rs : List ℕ) (there : CopiesThere b starts at (q ∷ rs) work ent) where
  first_turn : Reads b starts at q (get_or starts q 0 + u32_at b at) work ent
  unfolding copy_rows
  first_turn =
      let w = there.rows (get_or starts q 0 + u32_at b at) (inl refl) in
      record { slot = omega (arith, there.room); part = there.parts q (inl refl); word = w.0; entry = w.1 }

  later_turns : (g v : ℕ) → CopiesThere b starts (at + 4) rs work (set ent g v)
  unfolding copy_rows
  later_turns g v = record {
    room = omega (arith, there.room);
    parts = λ r i. there.parts r (inr i);
    rows = λ h i. let w = there.rows h (inr i) in (w.0, omega (arith, w.1, length-set ent g v));
  }

-- the parts `left` are still to do, with slots from `at` on; `all` and `ent` are the union and the entries so far
pub record Walking (b starts : List ℕ) (from others own i : ℕ) (work ent₀ ent : List ℕ) (left at all : ℕ) : Type 0 where
  pub there : CopiesThere b starts at (parts_in left) work ent
  pub union : joined work all (copy_rows b starts at (parts_in left)) ≡ joined work own (copy_rows b starts from (parts_in others))
  pub entries : numbered i ent (copy_rows b starts at (parts_in left)) ≡ numbered i ent₀ (copy_rows b starts from (parts_in others))
  pub same : length ent ≡ length ent₀

module _ {b starts : List ℕ} {from others own i : ℕ} {work ent₀ : List ℕ} where
  pub walking_none : CopiesThere b starts from (parts_in others) work ent₀ → Walking b starts from others own i work ent₀ ent₀ others from own
  walking_none t = record { there = t; union = refl; entries = refl; same = refl }

  module _ {ent : List ℕ} {left at all : ℕ} (now : Walking b starts from others own i work ent₀ ent left at all) where
    module _ {q r : ℕ} (turn : Turn left q r) where
      there' : CopiesThere b starts at (q ∷ parts_in r) work ent
      there' = subst (λ (rs : List ℕ). CopiesThere b starts at rs work ent) turn.parts now.there

      pub walking-turn : (g : ℕ) → g ≡ get_or starts q 0 + u32_at b at → Reads b starts at q g work ent
      walking-turn g e = subst (λ (x : ℕ). Reads b starts at q x work ent) (sym e) (first_turn q (parts_in r) there')

      pub walking_more : (g v : ℕ) → g ≡ get_or starts q 0 + u32_at b at → v ≡ bit_or all (get_or work g 0)
          → Walking b starts from others own i work ent₀ (set ent g i) r (at + 4) v
      unfolding copy_rows joined numbered
      walking_more g v e f = record {
        there = later_turns q (parts_in r) there' g i;
        union = ap (λ (x : ℕ). joined work x (copy_rows b starts (at + 4) (parts_in r))) (f ∙ ap (λ (x : ℕ). bit_or all (get_or work x 0)) e)
            ∙ ap (λ (rs : List ℕ). joined work all (copy_rows b starts at rs)) (sym turn.parts) ∙ now.union;
        entries = ap (λ (x : ℕ). numbered i (set ent x i) (copy_rows b starts (at + 4) (parts_in r))) e
            ∙ ap (λ (rs : List ℕ). numbered i ent (copy_rows b starts at rs)) (sym turn.parts) ∙ now.entries;
        same = length-set ent g i ∙ now.same;
      }

    pub walking_done : left ≡ 0
        → (all ≡ joined work own (copy_rows b starts from (parts_in others))) × (ent ≡ numbered i ent₀ (copy_rows b starts from (parts_in others)))
    unfolding copy_rows joined numbered
    walking_done e =
        let none : parts_in left ≡ _ = ap parts_in e ∙ parts_none in (
          ap (λ (rs : List ℕ). joined work all (copy_rows b starts at rs)) (sym none) ∙ now.union,
          ap (λ (rs : List ℕ). numbered i ent (copy_rows b starts at rs)) (sym none) ∙ now.entries,
        )

-- ---- the lowest row and what is left

module _ {b starts : List ℕ} {o g : ℕ} {work ent : List ℕ} (there : EntityThere b starts o g work ent) {m r : ℕ} (read : m ≡ u64_at b (o + 8)) (rest : Rest m r) where
  other_parts : drop 1 (parts_in (u64_at b (o + 8))) ≡ parts_in r
  other_parts = ap (λ (x : ℕ). drop 1 (parts_in x)) (sym read) ∙ ap (drop 1) rest.parts

  pub others_there : (i : ℕ) → CopiesThere b starts (o + 48) (parts_in r) work (set ent g i)
  others_there i =
      let t = subst (λ (rs : List ℕ). CopiesThere b starts (o + 48) rs work ent) other_parts there.others in
      record {
        room = t.room;
        parts = t.parts;
        rows = λ h k. let w = t.rows h k in (w.0, omega (arith, w.1, length-set ent g i));
      }

  pub one-joined : (i : ℕ) {v : ℕ} {ent' : List ℕ}
      → (v ≡ joined work (get_or work g 0) (copy_rows b starts (o + 48) (parts_in r))) × (ent' ≡ numbered i (set ent g i) (copy_rows b starts (o + 48) (parts_in r)))
      → (v ≡ joined work (get_or work g 0) (other_rows b starts o)) × (ent' ≡ numbered i (set ent g i) (other_rows b starts o))
  one-joined i w =
      let parts = sym other_parts in (
        w.0 ∙ ap (λ (rs : List ℕ). joined work (get_or work g 0) (copy_rows b starts (o + 48) rs)) parts,
        w.1 ∙ ap (λ (rs : List ℕ). numbered i (set ent g i) (copy_rows b starts (o + 48) rs)) parts,
      )
