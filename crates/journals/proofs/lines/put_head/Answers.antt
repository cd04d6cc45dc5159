-- The number, and the offset behind it.
use Rattle.journals.proofs.Putting.{puts-more}
use Rattle.journals.proofs.lines.put_head.Goals as goal

pub returns : goal.returns
returns c = puts-more (rw c.requires at c.push_decimal.ensures) c.push_numbers.ensures
