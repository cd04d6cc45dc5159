-- The number and the offset, the answer and the newline, one behind the other.
use Rattle.standard.specs.Journal.{line, reply_text}
use Rattle.journals.proofs.Putting.{puts, puts-more}
use Rattle.journals.proofs.lines.put_answer_line.Goals as goal

pub returns : goal.returns
unfolding line reply_text
returns c = puts-more (puts-more c.put_head.ensures c.put_answer.ensures) (puts c.push.ensures)
