-- `decimal::writing::put_decimal`: the digits before the last, by recursion, then the last. Assumes nothing.
use native.Mathlib.Omega.{arith}
use mathlib.Core.Path.{sym}
use Rattle.decimal.proofs.Decimals.{decimal-one, decimal-more}
use Rattle.decimal.proofs.Runs.{room_as, room_first, room_next, wrote_as, wrote_both}
use Rattle.decimal.proofs.writing.+put_decimal.Goals as goal

pub put_byte-requires : goal.put_byte-requires
put_byte-requires t c = room_as (decimal-one _ c.if-v-lt10.true) c.requires

pub returns-then-v-lt10 : goal.returns-then-v-lt10
returns-then-v-lt10 t c = wrote_as (sym (decimal-one _ c.if-v-lt10.true)) c.put_byte.ensures

pub put_decimal-last-requires : goal.put_decimal-last-requires
put_decimal-last-requires t c = (omega arith, room_first (decimal-more _ c.if-v-lt10.false c.ranges.v.fits) c.requires)

pub put_byte-requires-2 : goal.put_byte-requires-2
put_byte-requires-2 t c = room_next (decimal-more _ c.if-v-lt10.false c.ranges.v.fits) c.requires c.put_decimal-last.ensures

pub returns : goal.returns
returns t c = wrote_both (decimal-more _ c.if-v-lt10.false c.ranges.v.fits) c.put_decimal-last.ensures c.put_byte-2.ensures
