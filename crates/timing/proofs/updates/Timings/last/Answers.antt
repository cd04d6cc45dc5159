-- The last pair is the last timing.
use Rattle.std.proofs.Common.{[]}
use Rattle.timing.proofs.Pairs.{last-said}
use Rattle.timing.proofs.updates.Timings.last.Goals as goal

pub returns : goal.returns
returns c =
    let k = c.in_ok-block.ensures.item.3 in
    rw (c.from.ensures, ← c.self.view_is, k.1 []) (last-said _ k.0)
