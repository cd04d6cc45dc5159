use mir.Facts.{to_z-of_z}
use Rattle.standard.specs.Meaning.{new_gain}
use Rattle.rows.proofs.Tests.{back}
use Rattle.update.proofs.meaning.new_gain.Goals as goal

pub returns-in-None : goal.returns-in-None
unfolding new_gain
returns-in-None c = rw (c.in-None.is, to_z-of_z c.ranges.before)

pub returns-in-Some : goal.returns-in-Some
unfolding new_gain
returns-in-Some c = rw (c.in-Some.is, back c.gain_after.type_inv) (rw (to_z-of_z c.ranges.previous) at c.gain_after.ensures)
