-- A sound set, rule by rule and row by row, and that an image is accepted exactly where its set is sound.
-- Assumes nothing.
use Prim.Native.Nat.{ℕ, ◌<◌, ◌≤◌}
use native.Mathlib.Omega.{arith}
use mathlib.Core.Path.{◌≡◌, sym, ap, ◌∙◌, subst}
use mathlib.Core.List.{List, []}
use lib.ListN.{length, get_or, drop}
use lib.Dec.{T}
use lib.Pow.{are_bytes}
use Rattle.field.specs.Bytes.{u8_at}
use Rattle.field.proofs.Reading.{bytes_drop}
use Rattle.paper.specs.declared.Rule.TheVariants.{Fields, Order, Boundary, Copies, Residence, Owner}
use Rattle.paper.specs.Outcome.{accepted}
use Rattle.paper.specs.Image.{Set, image_of, row_at}
use Rattle.paper.specs.Sound.{max_image, fields_fit, ordered, boundary_stands, copies_agree, resides_well, owned_well, judged, decode, rules_of, sound_of}
use Rattle.paper.proofs.Outcomes.{bind_inv, bind_ok}
use Rattle.paper.proofs.Codec.{Wide, parts_walk}
use Rattle.paper.proofs.ImageCodec.{decode_inv, decode_encode, encode_decode}
use Rattle.demands.specs.Passed.{AllPassed}
use Rattle.demands.proofs.Rows.Faults.{rules_ok, rules_inv}

-- a test of each row of a set
abbrev pub Each : Set → (ℕ → ℕ → Type 0) → Type 0
Each S P = (p s : ℕ) → s < length (get_or S p []) → P p s

-- rules 7 to 10
pub record Copied (S : Set) : Type 0 where
  pub some_part : 0 < length S
  pub few_parts : length S ≤ 64
  pub wide : Each S (λ p s. Wide (row_at S p s))
  pub fields : Each S (λ p s. T (fields_fit (length S) p (row_at S p s)))
  pub order : Each S (λ p s. T (ordered (get_or S p []) s))
  pub boundary : Each S (λ p s. T (boundary_stands (get_or S p []) (row_at S p s)))
  pub copies : Each S (λ p s. T (copies_agree S p s))

-- and 11 and 12
pub record Sound (S : Set) : Type 0 where
  pub copied : Copied S
  pub residence : Each S (λ p s. T (resides_well S p s))
  pub owner : Each S (λ p s. T (owned_well S p s))

-- the rules by name are those of the paper
module _ (S : Set) where
  named : AllPassed S → (0 < length S) → (length S ≤ 64) → Each S (λ p s. Wide (row_at S p s)) → Sound S
  unfolding judged
  named pass some few wide = record {
    copied = record {
      some_part = some;
      few_parts = few;
      wide = wide;
      fields = pass Fields;
      order = pass Order;
      boundary = pass Boundary;
      copies = pass Copies;
    };
    residence = pass Residence;
    owner = pass Owner;
  }

  passes : Sound S → AllPassed S
  unfolding judged
  passes f Fields = f.copied.fields
  passes f Order = f.copied.order
  passes f Boundary = f.copied.boundary
  passes f Copies = f.copied.copies
  passes f Residence = f.residence
  passes f Owner = f.owner

pub sound_inv : (b : List ℕ) (S : Set) → T (are_bytes b) → sound_of b ≡ accepted S → Sound S × (b ≡ image_of S)
unfolding sound_of row_at
sound_inv b S y e =
    let s = bind_inv (decode b) rules_of S e in
    let R = s.0 in
    let r = rules_inv R S s.2 in
    let d = decode_inv b R s.1 in
    let w = parts_walk (u8_at b 5) (drop 8 b) R (bytes_drop 8 b y) d.walked in
    let some : 0 < length R = omega (arith, w.count, d.some_part) in
    let few : length R ≤ 64 = omega (arith, w.count, d.few_parts) in
    (subst Sound r.0 (named R r.1 some few w.wide), sym (decode_encode b R y s.1) ∙ ap image_of r.0)

-- ---- and back

pub sound_accepts : (S : Set) → Sound S → length (image_of S) ≤ max_image → sound_of (image_of S) ≡ accepted S
unfolding sound_of row_at
sound_accepts S f small =
    bind_ok (decode (image_of S)) rules_of S (encode_decode S (record {
      some_part = f.copied.some_part;
      few_parts = f.copied.few_parts;
      rows = λ p s h. (f.copied.wide p s h).row;
      small = small;
    }))
    ∙ rules_ok S (passes S f)
