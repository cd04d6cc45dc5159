use Rattle.standard.specs.Updates.{status}
use Rattle.bits.proofs.Reading.{on_true, on_false, done}
use Rattle.update.proofs.statuses.read_status.Goals as goal

pub returns-then-first : goal.returns-then-first
unfolding status
returns-then-first c = on_true _ c.if-first.true done

pub returns-else-first : goal.returns-else-first
unfolding status
returns-else-first c = on_false _ c.if-first.false c.read.ensures.reads
