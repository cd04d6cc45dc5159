-- A frame without blocks, or its last block.
use Rattle.std.proofs.Common.{arith}
use Rattle.standard.specs.Numbers.{frame_length}
use Rattle.standard.specs.CarriedCalls.{dropped}
use Rattle.timing.proofs.Over.{on-ended, carried-last, carried-none, starts-within}
use Rattle.timing.proofs.updates.Timings.carried_on.Goals as goal

pub over_edge-requires : goal.over_edge-requires
over_edge-requires c = (starts-within _ c.in-Some.ensures _ c.requires.passed.1, c.requires.few)

pub returns-in_err-going-in-None : goal.returns-in_err-going-in-None
unfolding frame_length
returns-in_err-going-in-None c = λ l rows e. rw (c.from_residual.ensures, c.in_err-going-in-None.was, carried-none _ c.in-None.ensures) (on-ended dropped l (omega arith))

pub returns-in-Some : goal.returns-in-Some
returns-in-Some c = λ l rows e. rw (carried-last _ c.in-Some.ensures) (c.over_edge.ensures rows e)

pub returns-in_ok-going-in-None : goal.returns-in_ok-going-in-None
returns-in_ok-going-in-None c = λ l rows e. rw (c.in_ok-going-in-None.was, carried-none _ c.in-None.ensures) (c.onward.ensures l)
