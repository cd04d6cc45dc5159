use Rattle.std.proofs.Common.{sym, arith}
use Rattle.standard.specs.Updates.{distance}
use Rattle.bits.proofs.Reading.{then, stops, then_as, stops_with, on_true, on_false, done}
use Rattle.rows.proofs.Tests.{back}
use Rattle.update.proofs.Numbers.{below, narrow}
use Rattle.update.proofs.position.read_distance.Goals as goal

pub returns-in_err-read_flag : goal.returns-in_err-read_flag
unfolding distance
returns-in_err-read_flag c = stops _ c.in_err-read_flag.ensures.reads c.from_residual.ensures.1

pub returns-then-not-branch : goal.returns-then-not-branch
unfolding distance
returns-then-not-branch c = then _ c.in_ok-read_flag.ensures.reads (on_false _ c.if-not-branch.true done)

pub returns-in_err-read_flag-2 : goal.returns-in_err-read_flag-2
unfolding distance
returns-in_err-read_flag-2 c =
    then _ c.in_ok-read_flag.ensures.reads (on_true _ c.if-not-branch.false
    (stops _ c.in_err-read_flag-2.ensures.reads c.from_residual-in_err-read_flag-2.ensures.1))

pub returns-then-branch : goal.returns-then-branch
unfolding distance
returns-then-branch c =
    then _ c.in_ok-read_flag.ensures.reads (on_true _ c.if-not-branch.false
    (then _ c.in_ok-read_flag-2.ensures.reads (on_true _ c.if-branch.true done)))

pub returns-in_err-index : goal.returns-in_err-index
unfolding distance
returns-in_err-index c =
    then _ c.in_ok-read_flag.ensures.reads (on_true _ c.if-not-branch.false
    (then _ c.in_ok-read_flag-2.ensures.reads (on_false _ c.if-branch.false
    (stops_with _ c.in_err-index.ensures.reads c.from_residual-in_err-index.ensures.1))))

pub overflow_cast-result : goal.overflow_cast-result
overflow_cast-result c = record { sfits = omega (arith, below 4 _ c.in_ok-index.ensures.reads) }

pub overflow_add-result : goal.overflow_add-result
overflow_add-result c =
    rw (narrow 4 _ (omega arith) c.in_ok-index.ensures.reads) (record { sfits = omega (arith, below 4 _ c.in_ok-index.ensures.reads) })

pub returns : goal.returns
unfolding distance
returns c =
    then _ c.in_ok-read_flag.ensures.reads (on_true _ c.if-not-branch.false
    (then _ c.in_ok-read_flag-2.ensures.reads (on_false _ c.if-branch.false
    (then_as _ (rw (narrow 4 _ (omega arith) c.in_ok-index.ensures.reads) (sym (back (omega (arith, below 4 _ c.in_ok-index.ensures.reads))))) c.in_ok-index.ensures.reads))))
