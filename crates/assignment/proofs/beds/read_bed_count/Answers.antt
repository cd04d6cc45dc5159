use Rattle.std.proofs.Common.{arith}
use Rattle.bits.proofs.Fields.{read-lt}
use Rattle.bits.proofs.Reading.{stops, then, stops_with, then_with, on_true, on_false, done, has}
use Rattle.assignment.specs.Parts.{bed_count}
use Rattle.assignment.proofs.beds.read_bed_count.Goals as goal

pub returns-in_err-read_flag : goal.returns-in_err-read_flag
unfolding bed_count
returns-in_err-read_flag c = stops _ c.in_err-read_flag.ensures.reads c.from_residual.ensures.1

pub returns-then-not-branch : goal.returns-then-not-branch
unfolding bed_count
returns-then-not-branch c = then _ c.in_ok-read_flag.ensures.reads (on_false _ c.if-not-branch.true done)

pub returns-in_err-read : goal.returns-in_err-read
unfolding bed_count
returns-in_err-read c =
    then _ c.in_ok-read_flag.ensures.reads (on_true _ c.if-not-branch.false (stops_with _ c.in_err-read.ensures.reads c.from_residual-in_err-read.ensures.1))

pub overflow_add-result : goal.overflow_add-result
overflow_add-result c = omega (arith, has (read-lt 3 _) c.in_ok-read.ensures.reads)

pub returns : goal.returns
unfolding bed_count
returns c =
    then _ c.in_ok-read_flag.ensures.reads (on_true _ c.if-not-branch.false (then_with _ c.in_ok-read.ensures.reads))
