use Rattle.std.proofs.Common.{arith}
use Rattle.rows.proofs.Tests.{back}
use Rattle.standard.specs.Updates.{position_word}
use Rattle.bits.proofs.Reading.{then, stops, done}
use Rattle.update.proofs.position.read_position.Goals as goal

pub returns-in_err-differential : goal.returns-in_err-differential
unfolding position_word
returns-in_err-differential c = stops _ c.in_err-differential.ensures c.from_residual.ensures.1

pub returns-in_err-point : goal.returns-in_err-point
unfolding position_word
returns-in_err-point c =
    then _ c.in_ok-differential.ensures (stops _ c.in_err-point.ensures c.from_residual-in_err-point.ensures.1)

pub returns-in_err-distance : goal.returns-in_err-distance
unfolding position_word
returns-in_err-distance c =
    then _ c.in_ok-differential.ensures (then _ c.in_ok-point.ensures (stops _ c.in_err-distance.ensures c.from_residual-in_err-distance.ensures.1))

pub returns : goal.returns
unfolding position_word
returns c = then _ c.in_ok-differential.ensures (then _ c.in_ok-point.ensures (then _ c.in_ok-distance.ensures
    (rw (back {z = c.in_ok-distance.distance} (omega (arith, rw c.in_ok-distance.was at c.read_distance.type_inv))) done)))
