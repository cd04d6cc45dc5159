use Rattle.standard.specs.Updates.{active_update}
use Rattle.bits.proofs.Reading.{then, stops, done, here_is}
use Rattle.update.proofs.read_active.Goals as goal

pub returns-in_err-status : goal.returns-in_err-status
unfolding active_update
returns-in_err-status c = then _ here_is (stops _ c.in_err-status.ensures c.from_residual.ensures.1)

pub returns-in_err-basic : goal.returns-in_err-basic
unfolding active_update
returns-in_err-basic c =
    then _ here_is (then _ c.in_ok-status.ensures (stops _ c.in_err-basic.ensures c.from_residual-in_err-basic.ensures.1))

pub returns-in_err-render : goal.returns-in_err-render
unfolding active_update
returns-in_err-render c =
    then _ here_is (then _ c.in_ok-status.ensures (then _ c.in_ok-basic.ensures (stops _ c.in_err-render.ensures c.from_residual-in_err-render.ensures.1)))

pub returns : goal.returns
unfolding active_update
returns c =
    then _ here_is (then _ c.in_ok-status.ensures (then _ c.in_ok-basic.ensures (then _ c.in_ok-render.ensures done)))
