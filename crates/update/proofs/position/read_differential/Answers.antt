use Rattle.bits.proofs.Reading.{on_true, done}
use Rattle.update.proofs.position.read_differential.Goals as goal

pub returns-then-first : goal.returns-then-first
returns-then-first c = on_true _ c.if-first.true done
