use Rattle.std.proofs.Common.{arith}
use Rattle.standard.specs.Updates.{three_sizes}
use Rattle.bits.proofs.Reading.{then, stops, done}
use Rattle.update.proofs.Numbers.{below}
use Rattle.update.proofs.render.read_sizes.Goals as goal

pub returns-in_err-width : goal.returns-in_err-width
unfolding three_sizes
returns-in_err-width c = stops _ c.in_err-width.ensures.reads c.from_residual.ensures.1

pub returns-in_err-depth : goal.returns-in_err-depth
unfolding three_sizes
returns-in_err-depth c =
    then _ c.in_ok-width.ensures.reads (stops _ c.in_err-depth.ensures.reads c.from_residual-in_err-depth.ensures.1)

pub returns-in_err-height : goal.returns-in_err-height
unfolding three_sizes
returns-in_err-height c =
    then _ c.in_ok-width.ensures.reads (then _ c.in_ok-depth.ensures.reads (stops _ c.in_err-height.ensures.reads c.from_residual-in_err-height.ensures.1))

pub size_of-requires : goal.size_of-requires
size_of-requires c =
    (omega (arith, below 5 _ c.in_ok-width.ensures.reads), omega (arith, below 5 _ c.in_ok-depth.ensures.reads), omega (arith, below 5 _ c.in_ok-height.ensures.reads))

pub returns : goal.returns
unfolding three_sizes
returns c =
    then _ c.in_ok-width.ensures.reads (then _ c.in_ok-depth.ensures.reads (then _ c.in_ok-height.ensures.reads (rw (← c.size_of.ensures) done)))
