-- The closure of a row: itself, then the closures of its boundary, entry by entry. Assumes nothing.
use Prim.Native.Nat.{ℕ, zero, suc, ◌+◌, ◌-◌, ◌^◌, ◌≤◌, ◌<◌}
use native.Mathlib.Numerals.{add-one}
use native.Mathlib.Omega.{arith}
use mathlib.Core.Path.{◌≡◌, refl, sym, ap, ◌∙◌, subst}
use mathlib.Core.Bool.{Bool, true, false, ◌&&◌, ◌||◌, or_assoc, or-false}
use mathlib.Core.Logic.{⊎_elim}
use mathlib.Core.List.{List, [], ◌∷◌, ◌++◌, map}
use lib.ListN.{length, get_or, take, set}
use lib.Seq.{take_all}
use lib.Bits.{bit_or}
use lib.Dec.{T, eqb, eqb→eq}
use Rattle.laws.specs.Lists.{In, some?, flat, member}
use Rattle.laws.proofs.Tests.{or_either, or_l, or_r, true_T, iff_eq, split2, join2}
use Rattle.laws.proofs.Members.{some_in, in_some}
use Rattle.part_set.specs.Masks.{has}
use Rattle.paper.specs.Image.{Row, no_row, row_at}
use Rattle.paper.specs.Mesh.{slots_of}
use Rattle.index.specs.Index.{set_in}
use Rattle.residence.specs.Marks.{slots_named}
use Rattle.rows.proofs.Laws.{row_there}
use Rattle.residence.proofs.covered.Marks.{some_take}
use Rattle.marks.specs.Closures.{slot_closure, closure_marks, Marked, Readable, Closed, Markable}
use Rattle.marks.proofs.Words.{or_and, mark_none, mark_same, mark_then, mark_set}
use Rattle.marks.proofs.Rows.{known_room, named_count, face_known, face_markable}

some_append : {A : Type 0} (f : A → Bool) (xs ys : List A) → some? f (xs ++ ys) ≡ (some? f xs || some? f ys)
unfolding some?
some_append f [] ys = refl
some_append f (x ∷ xs) ys = ap (λ (t : Bool). f x || t) (some_append f xs ys) ∙ sym (or_assoc (f x) (some? f xs) (some? f ys))

member-flat : (t : ℕ) (g : ℕ → List ℕ) (fs : List ℕ) → member t (flat (map g fs)) ≡ some? (λ f. member t (g f)) fs
unfolding member some? flat
member-flat t g [] = refl
member-flat t g (f ∷ fs) = some_append (eqb t) (g f) (flat (map g fs)) ∙ ap (λ (x : Bool). some? (eqb t) (g f) || x) (member-flat t g fs)

-- t is in the closure of one of the rows fs, of dimension d
abbrev pub under : ℕ → List Row → List ℕ → ℕ → Bool
under d rows fs t = some? (λ f. member t (slot_closure d rows f)) fs

closure-vertex : (rows : List Row) (s t : ℕ) → member t (slot_closure 0 rows s) ≡ eqb t s
unfolding slot_closure member some?
closure-vertex rows s t = or-false (eqb t s)

member_cons : (t x : ℕ) (xs : List ℕ) → member t (x ∷ xs) ≡ (eqb t x || member t xs)
unfolding member some?
member_cons t x xs = refl

closure_suc : (d : ℕ) (rows : List Row) (s t : ℕ) → member t (slot_closure (suc d) rows s) ≡ (eqb t s || under d rows (slots_of (suc d) (get_or rows s no_row).body) t)
unfolding slot_closure
closure_suc d rows s t =
    let fs = slots_of (suc d) (get_or rows s no_row).body in
    member_cons t s (flat (map (slot_closure d rows) fs)) ∙ ap (λ (x : Bool). eqb t s || x) (member-flat t (slot_closure d rows) fs)

closure_down : (d : ℕ) (rows : List Row) (s t : ℕ) → (d ≡ 0 → ⊥)
    → member t (slot_closure d rows s) ≡ (eqb t s || under (d - 1) rows (slots_of d (get_or rows s no_row).body) t)
closure_down zero rows s t h = absurd (h refl)
closure_down (suc d) rows s t h =
    let z : suc d - 1 ≡ d = omega arith in
    closure_suc d rows s t ∙ ap (λ (k : ℕ). eqb t s || under k rows (slots_of (suc d) (get_or rows s no_row).body) t) (sym z)

-- ---- closures of closures

module _ {b offs starts : List ℕ} (rd : Readable b offs starts) (p : ℕ) where
  abbrev near : List Row
  near = get_or (set_in b) p []

  -- t is a row, and its closure is within that of s
  abbrev Within : ℕ → ℕ → ℕ → Type 0
  Within d s t = (t < length near) × ((u : ℕ) → T (member u (slot_closure (row_at (set_in b) p t).dim near t)) → T (member u (slot_closure d near s)))

  within_own : (d s t : ℕ) → s < length near → (row_at (set_in b) p s).dim ≡ d → T (eqb t s) → Within d s t
  within_own d s t here e q =
      let z = eqb→eq t s q in
      (rw z here, λ u m. subst (λ (k : ℕ). T (member u (slot_closure k near s))) e (subst (λ (x : ℕ). T (member u (slot_closure (row_at (set_in b) p x).dim near x))) z m))

  within_face : (d s t : ℕ) → s < length near → (row_at (set_in b) p s).dim ≡ suc d → T (under d near (slots_of (suc d) (get_or near s no_row).body) t)
      → ((f : ℕ) → f < length near → (row_at (set_in b) p f).dim ≡ d → T (member t (slot_closure d near f)) → Within d f t) → Within (suc d) s t
  unfolding row_at
  within_face d s t here e q deeper =
      let fs = slots_of (suc d) (get_or near s no_row).body in
      let v = some_in (λ f. member t (slot_closure d near f)) fs q in
      let k = face_known (record { readable = rd; here = here }) (subst (λ (n : ℕ). In v.0 (slots_of n (get_or near s no_row).body)) (sym e) v.1) in
      let r = deeper v.0 k.0 (omega (arith, k.1, e)) v.2 in (
        r.0,
        λ u m. subst T (sym (closure_suc d near s u)) (or_r (eqb u s) (under d near fs u) (in_some (λ f. member u (slot_closure d near f)) fs v.0 v.1 (r.1 u m))),
      )

  pub closure_within : (d s t : ℕ) → s < length (get_or (set_in b) p []) → (row_at (set_in b) p s).dim ≡ d → T (member t (slot_closure d (get_or (set_in b) p []) s)) → Within d s t
  closure_within zero s t here e m = within_own zero s t here e (subst T (closure-vertex near s t) m)
  closure_within (suc d) s t here e m =
      ⊎_elim (λ q. within_own (suc d) s t here e q) (λ q. within_face d s t here e q (λ f. closure_within d f t))
      (or_either (eqb t s) (under d near (slots_of (suc d) (get_or near s no_row).body) t) (subst T (closure_suc d near s t) m))

  -- bits that come with those of the closure keep the words closed
  pub closed_more : {hit : ℕ → ℕ → Bool} {w w' : List ℕ} → Closed b starts p w
      → ((t u r : ℕ) → t < length (get_or (set_in b) p []) → T (hit t r) → T (member u (slot_closure (row_at (set_in b) p t).dim (get_or (set_in b) p []) t)) → T (hit u r))
      → Marked b starts p hit w w' → Closed b starts p w'
  closed_more {hit} {w} {w'} c h m t u r l z i =
      let lu = (closure_within (row_at (set_in b) p t).dim t u l refl i).0 in
      let old : ℕ → Bool = λ x. has (get_or w (get_or starts p 0 + x) 0) r in
      subst T (sym (m.bit u r lu))
      (⊎_elim (λ a. or_l (old u) (hit u r) (c t u r l a i)) (λ a. or_r (old u) (hit u r) (h t u r l a i)) (or_either (old t) (hit t r) (subst T (m.bit t r l) z)))

  pub closure_hits : (d s q : ℕ) → s < length (get_or (set_in b) p []) → (row_at (set_in b) p s).dim ≡ d → (t u r : ℕ) → t < length (get_or (set_in b) p [])
      → T (closure_marks b p d s q t r) → T (member u (slot_closure (row_at (set_in b) p t).dim (get_or (set_in b) p []) t)) → T (closure_marks b p d s q u r)
  unfolding closure_marks
  closure_hits d s q here e t u r l a i =
      let v = split2 (member t (slot_closure d near s)) (eqb r q) a in
      join2 (member u (slot_closure d near s)) (eqb r q) ((closure_within d s t here e v.0).1 u i, v.1)

-- ---- the loop over the boundary of row s

-- the closures of the first i entries are marked
pub record Closing (b starts : List ℕ) (p s d q : ℕ) (w₀ w : List ℕ) (i : ℕ) : Type 0 where
  pub few : i ≤ d + 1
  pub marks : Marked b starts p (λ t r. under (d - 1) (get_or (set_in b) p []) (take i (slots_named (row_at (set_in b) p s))) t && eqb r q) w₀ w
  pub closed : Closed b starts p w

or_swap : (a c : Bool) → (a || c) ≡ (c || a)
or_swap true true = refl
or_swap true false = refl
or_swap false true = refl
or_swap false false = refl

module _ {b offs starts : List ℕ} {p s d q : ℕ} {w₀ : List ℕ} (m : Markable b offs starts p s d q w₀) where
  abbrev rows : List Row
  rows = get_or (set_in b) p []

  abbrev fs : List ℕ
  fs = slots_named (row_at (set_in b) p s)

  -- the word of the row itself is there
  pub own_room : {l : ℕ} → l ≡ length w₀ → get_or starts p 0 + s < l
  own_room e = omega (arith, known_room m.known m.room, e)

  pub own_small : get_or starts p 0 + s < 21845
  own_small = row_there m.known.readable.index p s m.known.here

  own_mark : (row : ℕ) (w w₁ : List ℕ) → length w ≡ length w₀ → row ≡ get_or starts p 0 + s → w₁ ≡ set w row (bit_or (get_or w row 0) (2 ^ q))
      → Marked b starts p (λ t r. eqb t s && eqb r q) w w₁
  own_mark row w w₁ long e f = rw (f, e) (mark_set w s q m.known.here (own_room long))

  -- a row that has the bit has its closure marked
  pub close_known : (row : ℕ) → row ≡ get_or starts p 0 + s → has (get_or w₀ row 0) q ≡ true → Marked b starts p (closure_marks b p d s q) w₀ w₀
  unfolding closure_marks
  close_known row e h = record {
    same = refl;
    bit = λ t r l.
        let old = has (get_or w₀ (get_or starts p 0 + t) 0) r in
        let hit = member t (slot_closure d rows s) && eqb r q in
        iff_eq old (old || hit) (or_l old hit)
        (λ z. ⊎_elim (λ a. a)
        (λ a.
        let v = split2 (member t (slot_closure d rows s)) (eqb r q) a in
        subst (λ (x : ℕ). T (has (get_or w₀ (get_or starts p 0 + t) 0) x)) (sym (eqb→eq r q v.1))
        (m.closed s t q m.known.here (true_T (has (get_or w₀ (get_or starts p 0 + s) 0) q) (ap (λ (g : ℕ). has (get_or w₀ g 0) q) (sym e) ∙ h))
        (subst (λ (k : ℕ). T (member t (slot_closure k rows s))) (sym m.dim) v.0)))
        (or_either old hit z));
    before = λ g l. refl;
    behind = λ g l. refl;
  }

  pub close_vertex : (row : ℕ) (w₁ : List ℕ) → row ≡ get_or starts p 0 + s → w₁ ≡ set w₀ row (bit_or (get_or w₀ row 0) (2 ^ q)) → d ≡ 0
      → Marked b starts p (closure_marks b p d s q) w₀ w₁
  unfolding closure_marks
  close_vertex row w₁ e f z =
      mark_same (λ t r. ap (λ (x : Bool). x && eqb r q) (sym (closure-vertex rows s t) ∙ ap (λ (k : ℕ). member t (slot_closure k rows s)) (sym z))) (own_mark row w₀ w₁ refl e f)

  pub close_start : Closing b starts p s d q w₀ w₀ 0
  unfolding some?
  close_start = record { few = omega arith; marks = mark_none w₀; closed = m.closed }

  module _ (solid : d ≡ 0 → ⊥) where
    pub entry_there : (i : ℕ) → i ≤ d → i < length (slots_named (row_at (set_in b) p s))
    entry_there i h = omega (arith, named_count m.known m.dim solid)

    pub close_turn : (i f : ℕ) (w w' : List ℕ) → i ≤ d → Closing b starts p s d q w₀ w i → f ≡ get_or (slots_named (row_at (set_in b) p s)) i 0
        → Marked b starts p (closure_marks b p (d - 1) f q) w w' → Closing b starts p s d q w₀ w' (i + 1)
    unfolding closure_marks
    close_turn i f w w' h inv e n =
        let g : ℕ → ℕ → Bool = λ t f. member t (slot_closure (d - 1) rows f) in
        let fm = face_markable m solid i f w h e inv.marks.same inv.closed in
        record {
          few = omega arith;
          marks = mark_same
              (λ t r. or_and (some? (g t) (take i fs)) (g t f) (eqb r q)
              ∙ ap (λ (x : Bool). x && eqb r q)
              (ap (λ (x : ℕ). some? (g t) (take i fs) || g t x) e
              ∙ sym (some_take (g t) fs i 0 (entry_there i h))
              ∙ ap (λ (k : ℕ). some? (g t) (take k fs)) (sym (add-one i))))
              (mark_then inv.marks n);
          closed = closed_more m.known.readable p inv.closed (closure_hits m.known.readable p (d - 1) f q fm.known.here fm.dim) n;
        }

    named_is : fs ≡ slots_of d (get_or rows s no_row).body
    unfolding row_at
    named_is = ap (λ (k : ℕ). slots_of k (get_or rows s no_row).body) m.dim

    pub close_end : (row i : ℕ) (w w₁ : List ℕ) → d < i → row ≡ get_or starts p 0 + s → w₁ ≡ set w row (bit_or (get_or w row 0) (2 ^ q))
        → Closing b starts p s d q w₀ w i → Marked b starts p (closure_marks b p d s q) w₀ w₁
    unfolding closure_marks
    close_end row i w w₁ h e f inv =
        mark_same
        (λ t r. or_and (under (d - 1) rows (take i fs) t) (eqb t s) (eqb r q)
        ∙ ap (λ (x : Bool). x && eqb r q)
        (or_swap (under (d - 1) rows (take i fs) t) (eqb t s)
        ∙ ap (λ (l : List ℕ). eqb t s || under (d - 1) rows l t) (take_all i fs (omega (arith, named_count m.known m.dim solid)) ∙ named_is)
        ∙ sym (closure_down d rows s t solid)))
        (mark_then inv.marks (own_mark row w w₁ inv.marks.same e f))
