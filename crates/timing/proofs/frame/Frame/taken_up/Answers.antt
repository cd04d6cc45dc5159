-- Nothing is carried, or the test of kinds decides.
use Rattle.std.proofs.Common.{refl}
use Rattle.standard.specs.CarriedCalls.{dropped}
use Rattle.timing.proofs.Carrying.{taken-nothing, taken-some}
use Rattle.timing.proofs.frame.Frame.taken_up.Goals as goal

pub returns-in_err-ramp : goal.returns-in_err-ramp
returns-in_err-ramp c = rw (c.from_residual.ensures, c.in_err-ramp.was) (taken-nothing dropped _ _ refl)

pub returns : goal.returns
returns c = rw (c.then_some.ensures, c.in_ok-ramp.was) (taken-some _ _ _ _ c.takes.ensures)
