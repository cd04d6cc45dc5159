use Rattle.std.proofs.Common.{refl}
use Rattle.bits.proofs.Reading.{stops_with, then_as}
use Rattle.standard.specs.Assignment.{dynamics}
use Rattle.assignment.proofs.contents.read_dynamic_count.Goals as goal

pub returns-in_err-coded : goal.returns-in_err-coded
unfolding dynamics
returns-in_err-coded c = stops_with _ c.in_err-coded.ensures.reads c.from_residual.ensures.1

pub returns : goal.returns
unfolding dynamics
returns c = then_as _ refl c.in_ok-coded.ensures.reads
