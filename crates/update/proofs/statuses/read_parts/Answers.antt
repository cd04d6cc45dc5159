use Rattle.std.proofs.Common.{ap, ◌-◌}
use Rattle.std.proofs.lemmas.Bool.{eq-eqb, ne_eqb}
use Rattle.standard.specs.Updates.{parts}
use Rattle.bits.proofs.Reading.{on_true, on_false, done}
use Rattle.update.proofs.statuses.read_parts.Goals as goal

pub returns-then-status-eq1 : goal.returns-then-status-eq1
unfolding parts
returns-then-status-eq1 c =
    rw (ap (λ n. n - 1) c.two_to.ensures) (on_true _ (eq-eqb _ _ c.if-status-eq1.true) done)

pub returns : goal.returns
unfolding parts
returns c = on_false _ (ne_eqb _ _ c.if-status-eq1.false) c.read.ensures.reads
