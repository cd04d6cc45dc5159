use Rattle.std.proofs.Common.{arith}
use Rattle.rows.proofs.Tests.{back}
use Rattle.standard.specs.Updates.{differential}
use Rattle.bits.proofs.Reading.{then, stops, done}
use Rattle.update.proofs.position.read_steps.Goals as goal

pub returns-in_err-x : goal.returns-in_err-x
unfolding differential
returns-in_err-x c = stops _ c.in_err-x.ensures.reads c.from_residual.ensures.1

pub returns-in_err-y : goal.returns-in_err-y
unfolding differential
returns-in_err-y c =
    then _ c.in_ok-x.ensures.reads (stops _ c.in_err-y.ensures.reads c.from_residual-in_err-y.ensures.1)

pub returns-in_err-z : goal.returns-in_err-z
unfolding differential
returns-in_err-z c =
    then _ c.in_ok-x.ensures.reads (then _ c.in_ok-y.ensures.reads (stops _ c.in_err-z.ensures.reads c.from_residual-in_err-z.ensures.1))

pub returns : goal.returns
unfolding differential
returns c =
    let x = back {z = c.in_ok-x.x} (omega (arith, rw c.in_ok-x.was at c.read_signed.type_inv)) in
    let y = back {z = c.in_ok-y.y} (omega (arith, rw c.in_ok-y.was at c.read_signed-2.type_inv)) in
    let z = back {z = c.in_ok-z.z} (omega (arith, rw c.in_ok-z.was at c.read_signed-3.type_inv)) in
    then _ c.in_ok-x.ensures.reads (then _ c.in_ok-y.ensures.reads (then _ c.in_ok-z.ensures.reads (rw (x, y, z) done)))
