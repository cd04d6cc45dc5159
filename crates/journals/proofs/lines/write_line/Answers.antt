-- The number and the offset, the reply and the newline, one behind the other.
use Rattle.standard.specs.Journal.{line}
use Rattle.journals.proofs.Putting.{puts, puts-more}
use Rattle.journals.proofs.lines.write_line.Goals as goal

pub returns : goal.returns
unfolding line
returns c = puts-more (puts-more c.put_head.ensures c.put_reply.ensures) (puts c.push.ensures)
