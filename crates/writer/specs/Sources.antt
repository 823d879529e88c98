-- What the writer's records stand for. Assumes nothing.
use Rattle.std.specs.Prelude.{ℕ, List, length}
use Rattle.paper.specs.Image.{Row}
use Rattle.writer.specs.Entries.{entry_of, Entered}
use Rattle.writer.specs.Rows.{new_row, RowReady, new_rows, PartReady, PartRoom}
use Rattle.writer.specs.Written.{body_at, BodyReady}
use Rattle.writer.specs.declared.NewRows.{NewRows}
use Rattle.writer.specs.declared.Numbering.{Numbering}

-- the slot of entity j in part q
abbrev pub entry_in : Numbering → ℕ → ℕ → ℕ
entry_in t q j = entry_of t.masks.now t.base.now t.slots.now q j

abbrev pub EnteredIn : Numbering → ℕ → ℕ → Type 0
EnteredIn t q j = Entered t.masks.now t.base.now t.slots.now q j

-- what the row in part q has at 24, by the source row at `at`
abbrev pub body_in : NewRows → ℕ → ℕ → List ℕ
body_in w at q = body_at w.image.now at w.starts.now w.ent.now w.numbering.masks.now w.numbering.base.now w.numbering.slots.now q

abbrev pub BodyReadyIn : NewRows → ℕ → ℕ → Type 0
BodyReadyIn w at q = BodyReady w.image.now at w.starts.now w.ent.now w.numbering.masks.now w.numbering.base.now w.numbering.slots.now q

-- the row in part q of entity i
abbrev pub row_in : NewRows → ℕ → ℕ → Row
row_in w q i =
    new_row w.image.now w.offs.now w.starts.now w.ord.now w.ent.now w.counts.now w.numbering.masks.now w.numbering.base.now w.numbering.slots.now q i

abbrev pub RowReadyIn : NewRows → ℕ → ℕ → Type 0
RowReadyIn w q i =
    RowReady w.image.now w.offs.now w.starts.now w.ord.now w.ent.now w.counts.now w.numbering.masks.now w.numbering.base.now w.numbering.slots.now q i

-- the rows of part q, which has these members
abbrev pub rows_in : NewRows → List ℕ → ℕ → List Row
rows_in w members q =
    new_rows w.image.now w.offs.now w.starts.now w.ord.now w.ent.now w.counts.now w.numbering.masks.now w.numbering.base.now w.numbering.slots.now
    members 0 (length members) q

abbrev pub PartReadyIn : NewRows → List ℕ → ℕ → Type 0
PartReadyIn w members q =
    PartReady w.image.now w.offs.now w.starts.now w.ord.now w.ent.now w.counts.now w.numbering.masks.now w.numbering.base.now w.numbering.slots.now
    members 0 (length members) q

-- and they fit into the output from `at` on
abbrev pub PartRoomIn : NewRows → List ℕ → ℕ → List ℕ → ℕ → Type 0
PartRoomIn w members q out at =
    PartRoom w.image.now w.offs.now w.starts.now w.ord.now w.ent.now w.counts.now w.numbering.masks.now w.numbering.base.now w.numbering.slots.now
    members 0 (length members) q out at
