use mir.Facts.{to_z-of_z}
use Rattle.std.proofs.lemmas.Bool.{eq-eqb, ne_eqb}
use Rattle.standard.specs.Meaning.{copied_gain}
use Rattle.rows.proofs.Tests.{bits-silent}
use Rattle.update.proofs.meaning.copied_gain.Goals as goal

pub returns-then-previous-eq-SILENCE : goal.returns-then-previous-eq-SILENCE
unfolding copied_gain
returns-then-previous-eq-SILENCE c =
    rw (← bits-silent c.args.previous c.ranges.previous.sfits, eq-eqb _ _ c.if-previous-eq-SILENCE.true)

pub returns-else-previous-eq-SILENCE : goal.returns-else-previous-eq-SILENCE
unfolding copied_gain
returns-else-previous-eq-SILENCE c =
    rw (to_z-of_z c.ranges.previous, ← bits-silent c.args.previous c.ranges.previous.sfits, ne_eqb _ _ c.if-previous-eq-SILENCE.false)
