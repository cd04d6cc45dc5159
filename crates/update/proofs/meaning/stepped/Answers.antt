use Rattle.std.proofs.Common.{rules}
use Rattle.standard.specs.Meaning.{stepped}
use Rattle.rows.proofs.Tests.{back}
use Rattle.update.proofs.meaning.stepped.Goals as goal

pub returns : goal.returns
unfolding stepped
returns c =
    rw (
      back {z = c.step.result} c.step.type_inv,
      back {z = c.step-2.result} c.step-2.type_inv,
      back {z = c.step-3.result} c.step-3.type_inv,
      c.step.ensures,
      c.step-2.ensures,
      c.step-3.ensures,
      back {z = c.args.before.x} (search rules),
      back {z = c.args.before.y} (search rules),
      back {z = c.args.before.z} (search rules),
      back {z = c.args.steps.x} (search rules),
      back {z = c.args.steps.y} (search rules),
      back {z = c.args.steps.z} (search rules),
    )
