use Rattle.std.proofs.Common.{arith}
use mir.Facts.{to_z-of_z}
use Rattle.standard.specs.Meaning.{gain_said}
use Rattle.rows.proofs.Tests.{back}
use Rattle.update.proofs.meaning.gain_after.Goals as goal

pub returns-in-Level : goal.returns-in-Level
unfolding gain_said
returns-in-Level c = let t = rw c.in-Level.is at c.well_formed in rw (c.in-Level.is, back {z = c.in-Level.level} (omega (arith, t)))

pub returns-in-Copied : goal.returns-in-Copied
unfolding gain_said
returns-in-Copied c = rw (c.in-Copied.is, back c.copied_gain.type_inv) (rw (to_z-of_z c.ranges.previous) at c.copied_gain.ensures)
