-- As many pairs as there are blocks.
use Rattle.std.proofs.Common.{arith, ap, ◌∙◌, ◌/◌, length, map, take}
use Rattle.std.specs.Simd.{first_chunks}
use Rattle.timing.specs.Blocks.{timing_of}
use Rattle.timing.proofs.Pairs.{pairs-timed}
use Rattle.timing.proofs.updates.Timings.first.Goals as goal

pub returns : goal.returns
returns c =
    let half = length c.args.table.now / 2 in
    rw c.as_chunks.ensures.front
    (ap (λ n. map timing_of (take n (first_chunks 2 half c.args.table.now))) (omega arith) ∙ pairs-timed c.args.blocks half c.args.table.now (omega (arith, c.requires)))
