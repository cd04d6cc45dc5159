use Rattle.std.proofs.Common.{rules}
use Rattle.standard.specs.Container.{pass, handling}
use Rattle.bits.proofs.Reading.{on_true, on_false}
use Rattle.emdf.proofs.config.skip_handling.Goals as goal

pub returns-then-offset : goal.returns-then-offset
unfolding handling
returns-then-offset c = on_true _ c.if-offset.true c.skip.ensures

pub returns-else-offset : goal.returns-else-offset
unfolding handling
returns-else-offset c = on_false _ c.if-offset.false (c.skip_flagged.ensures (pass 9) (λ b b' r h. search rules))
