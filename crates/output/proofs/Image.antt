-- The parts that are written by the tables are those of the new image. Assumes nothing.
use Prim.Native.Nat.{ℕ, zero, suc, ◌+◌, ◌-◌, ◌≤◌, ◌<◌}
use native.Mathlib.Omega.{arith}
use mathlib.Core.Path.{◌≡◌, refl, sym, ap, ap₂, ◌∙◌, subst}
use mathlib.Core.List.{List, [], ◌∷◌, ◌++◌}
use lib.ListN.{length, get_or, take, drop, length-append}
use lib.Seq.{sets, length-sets}
use lib.Dec.{T}
use lib.Pow.{are_bytes}
use Rattle.laws.specs.Lists.{In, keep, up_to}
use Rattle.laws.proofs.Agree.{keep_agree}
use Rattle.laws.proofs.Members.{keep_in, get_or_in}
use Rattle.laws.proofs.Ranges.{up_to_in}
use Rattle.laws.proofs.Stores.{sets_then, sets_front}
use Rattle.field.proofs.Stores.{length_run, get_or_run}
use Rattle.part_set.specs.Masks.{has}
use Rattle.paper.specs.Image.{bytes_of_part}
use Rattle.index.specs.Index.{set_in}
use Rattle.plan.specs.Plan.{mesh, placing, made, new_image, Prepared}
use Rattle.demands.proofs.ForCode.Spread.{mask_at}
use Rattle.demands.proofs.ForCode.SpreadRows.{placed_in, part_rows_by_masks}
use Rattle.demands.proofs.ForCode.Written.{part_written, parts_written, part-written, image-written}
use Rattle.writer.specs.Rows.{PartReady}
use Rattle.writer.proofs.Right.{rows_right}
use Rattle.output.specs.Parts.{pieces, part_by, PartsReady}
use Rattle.output.proofs.TablesFilled.{TablesFilled, begins_up, part_listed, part_members}
use Rattle.output.proofs.Masks.{well, mask_is}
use Rattle.output.proofs.Ready.{row_ready, row_right}

module _ {b l offs starts ord ent masks counts base slots members begins : List ℕ} {n m : ℕ} (P : Prepared b l offs starts ord ent masks counts n m)
    (y : T (are_bytes b)) (F : TablesFilled masks base slots members begins n m) where
  abbrev count : ℕ → ℕ
  count q = get_or begins (q + 1) 0 - get_or begins q 0

  abbrev residents : ℕ → List ℕ
  residents q = keep (λ i. has (mask_at (made b l) (mesh b) i) q) (up_to (length (mesh b)))

  -- the members of a part are the entities that reside there
  members_are : (q : ℕ) → q < n → take (count q) (drop (get_or begins q 0) members) ≡ residents q
  members_are q g =
      part_members F q g
      ∙ keep_agree (λ i. has (get_or masks i 0) q) (λ i. has (mask_at (made b l) (mesh b) i) q) (up_to m) (λ i j. ap (λ (w : ℕ). has w q) (mask_is P i (up_to_in m i j)))
      ∙ ap (λ (k : ℕ). keep (λ i. has (mask_at (made b l) (mesh b) i) q) (up_to k)) P.source.ordered.count

  member_in : (q k : ℕ) → q < n → k < count q → In (get_or members (get_or begins q 0 + k) 0) (residents q)
  member_in q k g h =
      let run = take (count q) (drop (get_or begins q 0) members) in
      let all = length_run members (get_or begins q 0) (count q) (part_listed F q g) in
      subst (λ (xs : List ℕ). In (get_or members (get_or begins q 0 + k) 0) xs) (members_are q g)
      (subst (λ (x : ℕ). In x run) (get_or_run members (get_or begins q 0) (count q) (part_listed F q g) k h)
      (get_or_in run k 0 (omega (arith, all))))

  -- one that resides there is an entity with its bit
  resident : (q i : ℕ) → In i (residents q) → (i < m) × T (has (mask_at (made b l) (mesh b) i) q)
  resident q i j =
      let w = keep_in (λ i. has (mask_at (made b l) (mesh b) i) q) (up_to (length (mesh b))) i j in
      (omega (arith, up_to_in (length (mesh b)) i w.0, P.source.ordered.count), w.1)

  part_ready : (q : ℕ) → q < n → PartReady b offs starts ord ent counts masks base slots members (get_or begins q 0) (count q) q
  part_ready q g = record {
    listed = part_listed F q g;
    row = λ k h.
        let i = get_or members (get_or begins q 0 + k) 0 in
        let w = resident q i (member_in q k g h) in
        row_ready P y F q i g w.0 w.1;
  }

  counted : (q : ℕ) → q < length (set_in b) → get_or counts q 0 ≡ placed_in (mesh b) (placing b l) q
  unfolding placed_in
  counted q h = P.tallied.entry q h

  -- a part by the tables is that of the new image
  part_is : (q : ℕ) → q < n → part_by b offs starts ord ent counts masks base slots members begins q ≡ part_written (made b l) (mesh b) (λ r. get_or counts r 0) q
  part_is q g =
      let N = length (set_in b) in
      let c : ℕ → ℕ = λ r. get_or counts r 0 in
      let g' : q < N = omega (arith, P.source.indexed.count) in
      ap bytes_of_part (rows_right (made b l) (mesh b) b offs starts ord ent counts masks base slots members (get_or begins q 0) (count q) q (members_are q g)
      (λ i h t. row_right P y F q i g (omega (arith, P.source.ordered.count)) t)
      ∙ sym (part_rows_by_masks N (mesh b) (placing b l) (well P) c counted q g'))
      ∙ part-written N (mesh b) (placing b l) (well P) c counted q g'

  parts_are : (k : ℕ) → k ≤ n
      → pieces (part_by b offs starts ord ent counts masks base slots members begins) k ≡ parts_written (made b l) (mesh b) (λ r. get_or counts r 0) k
  unfolding pieces parts_written
  parts_are zero h = refl
  parts_are (suc k) h = ap₂ {C = List ℕ} (λ (xs ys : List ℕ). xs ++ ys) (parts_are k (omega arith)) (part_is k h)

  -- the new image: the head and the parts
  pub image_is : new_image b l ≡ (68 ∷ 77 ∷ 80 ∷ 1 ∷ 0 ∷ n ∷ 0 ∷ 0 ∷ []) ++ pieces (part_by b offs starts ord ent counts masks base slots members begins) n
  image_is =
      let c : ℕ → ℕ = λ r. get_or counts r 0 in
      image-written (length (set_in b)) (mesh b) (placing b l) (well P) c counted
      ∙ ap (λ (k : ℕ). (68 ∷ 77 ∷ 80 ∷ 1 ∷ 0 ∷ k ∷ 0 ∷ 0 ∷ []) ++ parts_written (made b l) (mesh b) c k) P.source.indexed.count
      ∙ ap (λ (xs : List ℕ). (68 ∷ 77 ∷ 80 ∷ 1 ∷ 0 ∷ n ∷ 0 ∷ 0 ∷ []) ++ xs) (sym (parts_are n (omega arith)))

  -- what `put_parts` wants
  pub parts_ready : (out headed : List ℕ) → length (new_image b l) ≤ length out → headed ≡ sets out 0 (68 ∷ 77 ∷ 80 ∷ 1 ∷ 0 ∷ n ∷ 0 ∷ 0 ∷ [])
      → PartsReady b offs starts ord ent counts masks base slots members begins n headed
  parts_ready out headed h e =
      let head : List ℕ = 68 ∷ 77 ∷ 80 ∷ 1 ∷ 0 ∷ n ∷ 0 ∷ 0 ∷ [] in
      let parts = pieces (part_by b offs starts ord ent counts masks base slots members begins) n in
      record {
        few = F.few_parts;
        begun = F.begins_room;
        up = begins_up F;
        part = part_ready;
        room = omega (arith, ap length image_is, length-append head parts, ap length e, length-sets out 0 head);
      }

  -- the head written, and the parts behind it
  pub image-put : (out headed out' : List ℕ) → length (new_image b l) ≤ length out → headed ≡ sets out 0 (68 ∷ 77 ∷ 80 ∷ 1 ∷ 0 ∷ n ∷ 0 ∷ 0 ∷ [])
      → out' ≡ sets headed 8 (pieces (part_by b offs starts ord ent counts masks base slots members begins) n)
      → out' ≡ new_image b l ++ drop (length (new_image b l)) out
  image-put out headed out' h e f =
      sets_then out headed out' 0 8 (68 ∷ 77 ∷ 80 ∷ 1 ∷ 0 ∷ n ∷ 0 ∷ 0 ∷ []) (pieces (part_by b offs starts ord ent counts masks base slots members begins) n) e f refl
      ∙ ap (sets out 0) (sym image_is) ∙ sets_front out (new_image b l) h
