-- What is printed into a line, with the line.
use Rattle.journals.proofs.Printing.{handed-on}
use Rattle.journals.proofs.prints.print_next.Goals as goal

pub returns-in_err-used : goal.returns-in_err-used
returns-in_err-used c = handed-on _ _ c.in_err-used.ensures c.from_residual.ensures.1

pub returns : goal.returns
returns c = c.in_ok-used.ensures
