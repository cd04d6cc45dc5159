-- A word, and the numbers behind it.
use Rattle.std.proofs.Common.{arith}
use Rattle.journals.specs.Say.{said_answer}
use Rattle.journals.proofs.Putting.{puts, puts-more, puts-within}
use Rattle.journals.proofs.AnswerTexts.{accepted-text, refused-text}
use Rattle.journals.proofs.lines.put_answer.Goals as goal

pub returns-then-answer-eq-ACCEPTED : goal.returns-then-answer-eq-ACCEPTED
returns-then-answer-eq-ACCEPTED c =
    let p = puts-more (puts c.push.ensures) c.push_numbers.ensures in
    rw (accepted-text (said_answer c.args.answer) c.if-answer-eq-ACCEPTED.true) (puts-within p _ (omega (arith, p.short)))

pub returns-else-answer-eq-ACCEPTED : goal.returns-else-answer-eq-ACCEPTED
returns-else-answer-eq-ACCEPTED c =
    rw (refused-text (said_answer c.args.answer) c.if-answer-eq-ACCEPTED.false) (puts-more (puts c.push-else-answer-eq-ACCEPTED.ensures) c.push_numbers-else-answer-eq-ACCEPTED.ensures)
