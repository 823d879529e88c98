-- `writer::NewRows::put_row`: the row that was built, copied. Assumes nothing.
use Prim.Native.Nat.{ℕ, ◌+◌, ◌*◌}
use native.Mathlib.Omega.{arith}
use lib.ListN.{replicate, length-replicate}
use Rattle.paper.specs.Image.{row_bytes}
use Rattle.writer.specs.Sources.{row_in}
use Rattle.writer.proofs.Rows.{row-length, row_copied}
use borrow.Author.Rules.{rules}
use Rattle.writer.proofs.NewRows.put_row.Goals as goal

pub copy-requires : goal.copy-requires
copy-requires c =
    (search rules, omega (arith, c.count.ensures.0, c.requires.room, row-length c.requires.row_ready))

pub returns : goal.returns
returns c =
    let k = row-length c.requires.row_ready in
    record {
      written = row_copied (replicate 300 0) _ (row_bytes (row_in c.args.self.now c.args.part.0 c.args.entity)) c.args.out.now _ c.args.at (44 + 4 * c.count.result) c.build_row.ensures c.copy.ensures (omega (arith, k, c.count.ensures.0)) (omega (arith, c.count.ensures.1))
          (length-replicate {A = ℕ} 300 0);
      next? = omega (arith, k, c.count.ensures.0);
    }
