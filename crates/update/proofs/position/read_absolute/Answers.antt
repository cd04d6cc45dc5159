use Rattle.std.proofs.Common.{arith}
use Rattle.standard.specs.Updates.{absolutely}
use Rattle.bits.proofs.Reading.{then, stops, done}
use Rattle.rows.proofs.Tests.{back}
use Rattle.update.proofs.Numbers.{below}
use Rattle.update.proofs.position.read_absolute.Goals as goal

pub returns-in_err-x : goal.returns-in_err-x
unfolding absolutely
returns-in_err-x c = stops _ c.in_err-x.ensures.reads c.from_residual.ensures.1

pub returns-in_err-y : goal.returns-in_err-y
unfolding absolutely
returns-in_err-y c =
    then _ c.in_ok-x.ensures.reads (stops _ c.in_err-y.ensures.reads c.from_residual-in_err-y.ensures.1)

pub returns-in_err-positive : goal.returns-in_err-positive
unfolding absolutely
returns-in_err-positive c =
    then _ c.in_ok-x.ensures.reads (then _ c.in_ok-y.ensures.reads (stops _ c.in_err-positive.ensures.reads c.from_residual-in_err-positive.ensures.1))

pub returns-in_err-z : goal.returns-in_err-z
unfolding absolutely
returns-in_err-z c =
    then _ c.in_ok-x.ensures.reads (then _ c.in_ok-y.ensures.reads
    (then _ c.in_ok-positive.ensures.reads (stops _ c.in_err-z.ensures.reads c.from_residual-in_err-z.ensures.1)))

pub height-requires : goal.height-requires
height-requires c = omega (arith, below 4 _ c.in_ok-z.ensures.reads)

pub returns : goal.returns
unfolding absolutely
returns c =
    then _ c.in_ok-x.ensures.reads (then _ c.in_ok-y.ensures.reads
    (then _ c.in_ok-positive.ensures.reads (then _ c.in_ok-z.ensures.reads
    (rw (back c.coordinate.type_inv, c.coordinate.ensures, back c.coordinate-2.type_inv, c.coordinate-2.ensures, back c.height.type_inv, c.height.ensures) done))))
