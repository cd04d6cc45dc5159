-- An answer, or one word.
use Rattle.std.proofs.Common.{arith}
use Rattle.standard.specs.Journal.{reply_text}
use Rattle.journals.proofs.Putting.{puts, puts-within}
use Rattle.journals.proofs.lines.put_reply.Goals as goal

pub returns-in-Answered : goal.returns-in-Answered
unfolding reply_text
returns-in-Answered c = rw (c.in-Answered.is, ← c.from.ensures) c.put_answer.ensures

pub returns-in-Noted : goal.returns-in-Noted
unfolding reply_text
returns-in-Noted c = rw c.in-Noted.is (puts-within (puts c.push.ensures) _ (omega arith))

pub returns-in-Cleared : goal.returns-in-Cleared
unfolding reply_text
returns-in-Cleared c = rw c.in-Cleared.is (puts-within (puts c.push-in-Cleared.ensures) _ (omega arith))

pub returns-in-Started : goal.returns-in-Started
unfolding reply_text
returns-in-Started c = rw c.in-Started.is (puts-within (puts c.push-in-Started.ensures) _ (omega arith))
