-- The last block lies in the table of blocks.
use Rattle.std.proofs.Common.{refl, arith}
use Rattle.standard.specs.Numbers.{row_width}
use Rattle.oamd.proofs.Ends.{last-place}
use Rattle.oamd.proofs.decoder.retain.Goals as goal

pub overflow_mul-from-2 : goal.overflow_mul-from-2
unfolding row_width
overflow_mul-from-2 c = omega (arith, last-place c.args.counts.blocks c.args.counts.objects c.requires.some, c.requires.there)

pub keep_rows-requires : goal.keep_rows-requires
unfolding row_width
keep_rows-requires c =
    record { room = c.requires.long; few = c.requires.few; there = omega (arith, last-place c.args.counts.blocks c.args.counts.objects c.requires.some, c.requires.there) }

pub count_unsettled-requires : goal.count_unsettled-requires
unfolding row_width
count_unsettled-requires c = (c.requires.few, omega (arith, last-place c.args.counts.blocks c.args.counts.objects c.requires.some, c.requires.there))

pub returns : goal.returns
unfolding row_width
returns c = record { counts = rw c.count_unsettled.ensures refl; kept = c.keep_rows.ensures }
