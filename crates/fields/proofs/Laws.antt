-- Rule 7 by numbers that are read from the image, and tests with no branch. Assumes nothing.
use Prim.Native.Nat.{ℕ, zero, suc, ◌+◌, ◌^◌, ◌≤◌, ◌<◌}
use native.Mathlib.Nat.{not-suc-le-zero}
use native.Mathlib.Omega.{arith}
use mathlib.Core.Path.{◌≡◌, refl, sym, ap, ap₂, ◌∙◌}
use mathlib.Core.Bool.{Bool, true, false, not, ◌&&◌, ◌||◌, and-true}
use mathlib.Core.List.{List, []}
use lib.ListN.{length, get_or, take, drop}
use lib.Seq.{drop-drop}
use lib.Dec.{T, ltb, leb, eqb, leb→le}
use borrow.Author.Tests.{ne_eqb, le-ltb}
use Rattle.laws.specs.Lists.{every}
use Rattle.laws.proofs.Tests.{and_three}
use Rattle.field.specs.Bytes.{u8_at, u32_at, u64_at, longs, finite}
use Rattle.field.proofs.Reading.{u64_drop}
use Rattle.part_set.specs.Masks.{has}
use Rattle.paper.specs.Image.{Row}
use Rattle.paper.specs.Sound.{value_fitting, body_fitting, fields_fit}
use Rattle.index.specs.Index.{row_from, set_in, Indexed}
use Rattle.index.proofs.RowFields.{u64_take, row_dim, row_owner, row_kind, row_pad, row_mask, row_value, row_body}
use Rattle.paper.specs.declared.Rule.TheVariants.{Fields}
use Rattle.paper.specs.Sound.{judged}
use Rattle.fields.proofs.Zeros.{zeros, zeros_add, drop-take, zero_u32, zero_u64}

-- ---- the value

pub value_tests : (k v : ℕ) → ((not (eqb k 0) || eqb v 0) && (ltb k 2 || finite v)) ≡ value_fitting k v
unfolding value_fitting
value_tests zero v = and-true (eqb v 0)
value_tests (suc zero) v = refl
value_tests (suc (suc k)) v = rw (ne_eqb (suc (suc k)) 0 (λ e. omega (arith, e)), le-ltb (suc (suc k)) 2 (omega arith))

-- ---- the body

module _ (b : List ℕ) (o : ℕ) where
  -- what stands behind the first m bytes of the body: n bytes from k on
  behind : (m n k : ℕ) → m + n ≡ 24 → o + 24 + m ≡ k → zeros (take n (drop k b)) ≡ zeros (drop m (row_from b o).body)
  behind m n k e f =
      sym
      (ap (λ (l : List ℕ). zeros (drop m l)) (row_body b o) ∙ ap (λ (j : ℕ). zeros (drop m (take j (drop (o + 24) b)))) (sym e)
      ∙ ap zeros (drop-take m n (drop (o + 24) b)) ∙ ap (λ (l : List ℕ). zeros (take n l)) (drop-drop m (o + 24) b ∙ ap (λ (j : ℕ). drop j b) f))

  pub zero_tests : (d : ℕ) → 0 < d → d ≤ 3
      → ((ltb 1 d || eqb (u32_at b (o + 32)) 0) && (ltb 2 d || eqb (u32_at b (o + 36)) 0) && eqb (u64_at b (o + 40)) 0) ≡ body_fitting d (row_from b o).body
  unfolding body_fitting
  zero_tests zero h l = absurd (not-suc-le-zero h)
  zero_tests (suc zero) h l =
      ap₂ ◌&&◌ (ap₂ ◌&&◌ (zero_u32 b (o + 32)) (zero_u32 b (o + 36)) ∙ sym (zeros_add b 4 4 (o + 32) (o + 36) (omega arith))) (zero_u64 b (o + 40))
      ∙ sym (zeros_add b 8 8 (o + 32) (o + 40) (omega arith)) ∙ behind 8 16 (o + 32) refl (omega arith)
  zero_tests (suc (suc zero)) h l =
      ap₂ ◌&&◌ (zero_u32 b (o + 36)) (zero_u64 b (o + 40)) ∙ sym (zeros_add b 4 8 (o + 36) (o + 40) (omega arith)) ∙ behind 12 12 (o + 36) refl (omega arith)
  zero_tests (suc (suc (suc zero))) h l = zero_u64 b (o + 40) ∙ behind 16 8 (o + 40) refl (omega arith)
  zero_tests (suc (suc (suc (suc d)))) h l = absurd (omega arith)

  -- the three numbers of a vertex
  coordinate : (i k : ℕ) → i + 8 ≤ 24 → o + 24 + i ≡ k → u64_at b k ≡ u64_at (row_from b o).body i
  coordinate i k h e =
      sym (ap (λ (l : List ℕ). u64_at l i) (row_body b o) ∙ u64_take 24 (drop (o + 24) b) i h ∙ u64_drop b (o + 24) i ∙ ap (u64_at b) e)

  pub point_tests : (finite (u64_at b (o + 24)) && finite (u64_at b (o + 32)) && finite (u64_at b (o + 40))) ≡ body_fitting 0 (row_from b o).body
  unfolding body_fitting every longs
  point_tests =
      let body = (row_from b o).body in
      let x : u64_at b (o + 24) ≡ u64_at body 0 = coordinate 0 (o + 24) (omega arith) (omega arith) in
      let y : u64_at b (o + 32) ≡ u64_at (drop 8 body) 0 = coordinate 8 (o + 32) (omega arith) (omega arith) ∙ sym (u64_drop body 8 0) in
      let z : u64_at b (o + 40) ≡ u64_at (drop 8 (drop 8 body)) 0 = coordinate 16 (o + 40) (omega arith) (omega arith) ∙ sym (u64_drop (drop 8 body) 8 0 ∙ u64_drop body 8 8) in
      ap₂ ◌&&◌ (ap₂ ◌&&◌ (ap finite x) (ap finite y)) (ap finite z)
      ∙ and_three (finite (u64_at body 0)) (finite (u64_at (drop 8 body) 0)) (finite (u64_at (drop 8 (drop 8 body)) 0))

-- ---- all fields

-- the body is looked at only where the dimension is one
guarded : (t a b c d e v v' w w' : Bool) → v ≡ v' → (T t → w ≡ w') → (t && a && b && c && d && e && v && w) ≡ (t && a && b && c && d && e && v' && w')
guarded true a b c d e v v' w w' same_v same_w = ap₂ (λ (x y : Bool). true && a && b && c && d && e && x && y) same_v (same_w tt)
guarded false a b c d e v v' w w' same_v same_w = refl

fields-tests : (n p : ℕ) (r : Row) (value body : Bool) → value ≡ value_fitting r.kind r.value → (r.dim ≤ 3 → body ≡ body_fitting r.dim r.body)
    → (leb r.dim 3 && ltb r.owner n && leb r.kind 2 && eqb r.pad 0 && ltb r.mask (2 ^ n) && has r.mask p && value && body) ≡ fields_fit n p r
unfolding fields_fit
fields-tests n p r value body same-value same_body =
    guarded (leb r.dim 3) (ltb r.owner n) (leb r.kind 2) (eqb r.pad 0) (ltb r.mask (2 ^ n)) (has r.mask p)
    value (value_fitting r.kind r.value) body (body_fitting r.dim r.body) same-value (λ t. same_body (leb→le r.dim 3 t))

-- the same of the row at o, by the numbers that are read there
pub fields_read : (b : List ℕ) (o n p : ℕ) {dim owner kind pad mask value : ℕ} {inside own value_ok body_ok : Bool}
    → dim ≡ u8_at b (o + 4) → owner ≡ u8_at b (o + 5) → kind ≡ u8_at b (o + 6) → pad ≡ u8_at b (o + 7) → mask ≡ u64_at b (o + 8) → value ≡ u64_at b (o + 16)
    → inside ≡ ltb mask (2 ^ n) → own ≡ has mask p → value_ok ≡ value_fitting kind value → (dim ≤ 3 → body_ok ≡ body_fitting dim (row_from b o).body)
    → (leb dim 3 && ltb owner n && leb kind 2 && eqb pad 0 && inside && own && value_ok && body_ok) ≡ fields_fit n p (row_from b o)
fields_read b o n p {dim} {owner} {kind} {pad} {mask} {value} {inside} {own} {value_ok} {body_ok} ed eo ek ep em ev e-inside e-own e-value e_body =
    let r = row_from b o in
    let d : dim ≡ r.dim = ed ∙ sym (row_dim b o) in
    let k : kind ≡ r.kind = ek ∙ sym (row_kind b o) in
    let v : value ≡ r.value = ev ∙ sym (row_value b o) in
    let m : mask ≡ r.mask = em ∙ sym (row_mask b o) in
    ap₂ ◌&&◌ (ap₂ ◌&&◌ (ap₂ ◌&&◌ (ap₂ ◌&&◌ (ap₂ ◌&&◌ (ap₂ ◌&&◌ (ap₂ ◌&&◌
    (ap (λ (x : ℕ). leb x 3) d) (ap (λ (x : ℕ). ltb x n) (eo ∙ sym (row_owner b o)))) (ap (λ (x : ℕ). leb x 2) k)) (ap (λ (x : ℕ). eqb x 0) (ep ∙ sym (row_pad b o))))
    (e-inside ∙ ap (λ (x : ℕ). ltb x (2 ^ n)) m)) (e-own ∙ ap (λ (x : ℕ). has x p) m)) refl) refl
    ∙ fields-tests n p r value_ok body_ok (e-value ∙ ap₂ value_fitting k v) (λ few. e_body (omega (arith, d, few)) ∙ ap (λ (x : ℕ). body_fitting x r.body) d)

-- ---- in the index of an image

pub fields-judged : {b offs starts : List ℕ} {n : ℕ} → Indexed b offs starts n → (p s : ℕ) → s < length (get_or (set_in b) p [])
    → fields_fit n p (row_from b (get_or offs (get_or starts p 0 + s) 0)) ≡ judged Fields (set_in b) p s
unfolding judged
fields-judged index p s h = ap₂ (λ (k : ℕ) (r : Row). fields_fit k p r) (sym index.count) (sym (index.row p s h))
