use Rattle.std.proofs.Common.{◌≡◌, arith}
use Rattle.bits.proofs.Laws.{read-lt}
use Rattle.bits.proofs.Reading.{then, stops, done, has}
use Rattle.standard.specs.Syntax.{ramp}
use Rattle.objects.specs.Element.{chosen_ramp}
use Rattle.objects.proofs.timings.read_ramp_duration.Goals as goal

pub returns-in_err-read : goal.returns-in_err-read
unfolding ramp
returns-in_err-read c = stops _ c.in_err-read.ensures.reads c.from_residual.ensures.1

pub returns-in-0 : goal.returns-in-0
unfolding ramp
returns-in-0 c = then _ c.in_ok-read.ensures.reads (rw c.in-0.is done)

pub returns-in-1 : goal.returns-in-1
unfolding ramp
returns-in-1 c = then _ c.in_ok-read.ensures.reads (rw c.in-1.is done)

pub returns-in-2 : goal.returns-in-2
unfolding ramp
returns-in-2 c = then _ c.in_ok-read.ensures.reads (rw c.in-2.is done)

pub returns-in_default : goal.returns-in_default
unfolding ramp chosen_ramp
returns-in_default c =
    let l = has (read-lt 2 _) c.in_ok-read.ensures.reads in
    let k : c.in_ok-read.field-0 ≡ 3 = omega (arith, l) in
    then _ c.in_ok-read.ensures.reads (rw k c.read_chosen_duration.ensures)
