use Rattle.std.proofs.Common.{rules, refl}
use Rattle.standard.specs.Ramps.{fraction}
use Rattle.standard.proofs.Fractions.{fraction-below}
use Rattle.timing.specs.Say.{choice_said}
use Rattle.timing.proofs.ramps.Choice.fraction.Goals as goal

pub returns : goal.returns
unfolding fraction
returns c = record { quotient = refl; below = fraction-below (choice_said c.args.self) (search rules) c.args.self.lasts (search rules) }
