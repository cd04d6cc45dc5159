-- What was found, and the reply to it, make the turn.
use Rattle.journals.proofs.Turning.{turn-paused, turn-replied}
use Rattle.journals.proofs.turns.advance.Goals as goal

pub returns-in_err-found : goal.returns-in_err-found
returns-in_err-found c = turn-paused _ c.in_err-found.ensures c.from_residual.ensures.1

pub returns : goal.returns
returns c = turn-replied _ c.in_ok-found.ensures c.reply_to-reply.ensures
