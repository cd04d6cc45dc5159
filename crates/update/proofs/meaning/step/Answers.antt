use Rattle.rows.proofs.Tests.{back}
use Rattle.update.proofs.Steps.{clamped}
use Rattle.update.proofs.meaning.step.Goals as goal

pub returns : goal.returns
returns c =
    rw (
      back {z = c.clamp.result} c.clamp.type_inv,
      c.clamp.ensures.value,
      back {z = c.saturating_add.result} c.saturating_add.type_inv,
      c.saturating_add.ensures,
      back {z = c.args.coordinate} c.ranges.coordinate.sfits,
      back {z = c.args.by} c.ranges.by.sfits,
      back {z = c.args.low} c.ranges.low.sfits,
      back {z = c.args.high} c.ranges.high.sfits,
    )
    (clamped _ _ _ c.requires c.ranges.low.sfits c.ranges.high.sfits)
