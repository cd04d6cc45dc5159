-- Field by field.
use Rattle.standard.specs.Numbers.{frame_length}
use Rattle.timing.proofs.Over.{on-running}
use Rattle.timing.proofs.edges.onward.Goals as goal

pub returns-then-elapsed-going : goal.returns-then-elapsed-going
unfolding frame_length
returns-then-elapsed-going c = λ l. on-running _ l c.if-elapsed-going.true
