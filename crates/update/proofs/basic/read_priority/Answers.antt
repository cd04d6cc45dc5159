use Rattle.std.proofs.Common.{pos, sym, arith}
use Rattle.standard.specs.Updates.{priority_word}
use Rattle.bits.proofs.Reading.{then, stops, then_as, stops_with, on_true, on_false, done}
use Rattle.update.proofs.Numbers.{below, narrow}
use Rattle.update.proofs.basic.read_priority.Goals as goal

pub returns-in_err-read_flag : goal.returns-in_err-read_flag
unfolding priority_word
returns-in_err-read_flag c = stops _ c.in_err-read_flag.ensures.reads c.from_residual.ensures.1

pub returns-then-branch : goal.returns-then-branch
unfolding priority_word
returns-then-branch c = then _ c.in_ok-read_flag.ensures.reads (on_true _ c.if-branch.true done)

pub returns-in_err-priority : goal.returns-in_err-priority
unfolding priority_word
returns-in_err-priority c =
    then _ c.in_ok-read_flag.ensures.reads (on_false _ c.if-branch.false (stops_with _ c.in_err-priority.ensures.reads c.from_residual-in_err-priority.ensures.1))

pub overflow_cast-result : goal.overflow_cast-result
overflow_cast-result c = record { sfits = omega (arith, below 5 _ c.in_ok-priority.ensures.reads) }

pub returns : goal.returns
unfolding priority_word
returns c =
    then _ c.in_ok-read_flag.ensures.reads (on_false _ c.if-branch.false (then_as pos (sym (narrow 5 _ (omega arith) c.in_ok-priority.ensures.reads)) c.in_ok-priority.ensures.reads))
