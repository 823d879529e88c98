-- The set of an indexed image that passes rules 7 to 10, as crate demands has it. Assumes nothing.
use Prim.Native.Nat.{ℕ, ◌<◌}
use native.Mathlib.Omega.{arith}
use mathlib.Core.Path.{◌≡◌, refl, sym, subst}
use mathlib.Core.List.{List, []}
use mathlib.Core.Option.{Option, none, some, get_or}
use lib.ListN.{length, drop}
use lib.Dec.{T}
use lib.Pow.{are_bytes}
use Rattle.field.specs.Bytes.{u8_at}
use Rattle.field.proofs.Reading.{bytes_drop}
use Rattle.paper.specs.Image.{Set, walk_parts, row_at}
use Rattle.paper.proofs.Codec.{parts_walk}
use Rattle.index.specs.Index.{set_in, Indexed}
use Rattle.demands.proofs.Sound.Facts.{Copied}
use Rattle.paper.specs.declared.Rule.TheVariants.{Fields, Order, Boundary, Copies, Residence}
use Rattle.paper.specs.Sound.{judged}
use Rattle.demands.specs.Passed.{PassedAhead}

-- where the set has a part, the walk found it
pub walk_found : (b : List ℕ) → 0 < length (set_in b) → walk_parts (u8_at b 5) (drop 8 b) ≡ some (set_in b)
unfolding set_in
walk_found b h = go (walk_parts (u8_at b 5) (drop 8 b)) h
  where
    go : (o : Option Set) → 0 < length (get_or o []) → o ≡ some (get_or o [])
    go none h = absurd (omega arith)
    go (some S) h = refl

pub copied : {b offs starts : List ℕ} {n : ℕ} → Indexed b offs starts n → T (are_bytes b) → PassedAhead Residence (set_in b) → 0 < n → Copied (set_in b)
unfolding judged row_at
copied {b} index y pass h = record {
  some_part = omega (arith, index.count);
  few_parts = omega (arith, index.count, index.few);
  wide = (parts_walk (u8_at b 5) (drop 8 b) (set_in b) (bytes_drop 8 b y) (walk_found b (omega (arith, index.count)))).wide;
  fields = pass Fields (omega arith);
  order = pass Order (omega arith);
  boundary = pass Boundary (omega arith);
  copies = pass Copies (omega arith);
}

-- the number of parts is that of the set
pub index_own : {b offs starts : List ℕ} {n : ℕ} → Indexed b offs starts n → Indexed b offs starts (length (set_in b))
index_own {b} {offs} {starts} index = subst (Indexed b offs starts) (sym index.count) index
