use Rattle.std.proofs.Common.{rules}
use Rattle.standard.specs.Meaning.{new_position}
use Rattle.rows.proofs.Tests.{back}
use Rattle.update.proofs.meaning.moved.Goals as goal

pub returns-in-None : goal.returns-in-None
unfolding new_position
returns-in-None c = rw (c.in-None.is)

pub returns-in-Some : goal.returns-in-Some
unfolding new_position
returns-in-Some c =
    rw (
      c.in-Some.is,
      back {z = c.in-Some.field-0.word.distance} (search rules),
      back {z = c.args.before.screen} (search rules),
      back {z = c.args.before.lock} (search rules),
      c.new_point.ensures,
    )
