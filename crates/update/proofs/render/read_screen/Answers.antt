use Rattle.standard.specs.Updates.{screen_word, bit}
use Rattle.bits.proofs.Reading.{then, stops, next, next_stops, on_true, done}
use Rattle.update.proofs.render.read_screen.Goals as goal

pub returns-in_err-read_flag : goal.returns-in_err-read_flag
unfolding screen_word
returns-in_err-read_flag c = stops _ c.in_err-read_flag.ensures.reads c.from_residual.ensures.1

pub returns-then-not-branch : goal.returns-then-not-branch
unfolding screen_word bit
returns-then-not-branch c = then _ c.in_ok-read_flag.ensures.reads (rw c.if-not-branch.true done)

pub returns-in_err-read : goal.returns-in_err-read
unfolding screen_word
returns-in_err-read c =
    then _ c.in_ok-read_flag.ensures.reads (on_true _ c.if-not-branch.false (next_stops _ c.in_err-read.ensures.reads c.from_residual-in_err-read.ensures.1))

pub returns-in_err-read-2 : goal.returns-in_err-read-2
unfolding screen_word
returns-in_err-read-2 c =
    then _ c.in_ok-read_flag.ensures.reads (on_true _ c.if-not-branch.false
    (next c.in_ok-read.ensures.reads (next_stops _ c.in_err-read-2.ensures.reads c.from_residual-in_err-read-2.ensures.1)))

pub returns : goal.returns
unfolding screen_word bit
returns c =
    then _ c.in_ok-read_flag.ensures.reads (rw c.if-not-branch.false (next c.in_ok-read.ensures.reads (next c.in_ok-read-2.ensures.reads done)))
