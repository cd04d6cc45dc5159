use Rattle.bits.proofs.Laws.{read-lt}
use Rattle.bits.proofs.Reading.{then, stops, then_with, stops_with, on_true, on_false, has}
use Rattle.standard.specs.Syntax.{ramp_durations}
use Rattle.objects.specs.Element.{chosen_ramp}
use Rattle.objects.proofs.timings.read_chosen_duration.Goals as goal

pub returns-in_err-read_flag : goal.returns-in_err-read_flag
unfolding chosen_ramp
returns-in_err-read_flag c = stops _ c.in_err-read_flag.ensures.reads c.from_residual.ensures.1

pub returns-then-not-branch : goal.returns-then-not-branch
unfolding chosen_ramp
returns-then-not-branch c = then _ c.in_ok-read_flag.ensures.reads (on_false _ c.if-not-branch.true c.read.ensures.reads)

pub returns-in_err-index : goal.returns-in_err-index
unfolding chosen_ramp
returns-in_err-index c =
    then _ c.in_ok-read_flag.ensures.reads (on_true _ c.if-not-branch.false (stops_with _ c.in_err-index.ensures.reads c.from_residual-in_err-index.ensures.1))

pub bounds-index : goal.bounds-index
bounds-index c = has (read-lt _ _) c.in_ok-index.ensures.reads

pub returns : goal.returns
unfolding chosen_ramp ramp_durations
returns c =
    then _ c.in_ok-read_flag.ensures.reads (on_true _ c.if-not-branch.false (then_with _ c.in_ok-index.ensures.reads))
