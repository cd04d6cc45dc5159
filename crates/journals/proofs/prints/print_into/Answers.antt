-- What the turn says, and the line behind it.
use Rattle.journals.proofs.Printing.{printed-line, printed-into}
use Rattle.journals.proofs.prints.print_into.Goals as goal

pub returns-in_err-turn : goal.returns-in_err-turn
returns-in_err-turn c = printed-into _ _ _ _ c.in_err-turn.ensures c.from_residual.ensures.1

pub returns : goal.returns
returns c = printed-line _ _ c.in_ok-turn.ensures c.write_line.ensures
