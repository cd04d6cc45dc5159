use Rattle.std.proofs.Common.{arith}
use Rattle.standard.specs.Updates.{levels}
use Rattle.update.specs.Say.{gain_said, number_said}
use Rattle.bits.proofs.Reading.{then, stops, done_as}
use Rattle.update.proofs.Asking.{asked}
use Rattle.update.proofs.basic.read_levels.Goals as goal

pub returns-in_err-gain : goal.returns-in_err-gain
unfolding levels
returns-in_err-gain c =
    stops _ (asked gain_said (λ p r q h. h) c.is_set.ensures c.in_err-gain.ensures) c.from_residual.ensures.1

pub returns-in_err-priority : goal.returns-in_err-priority
unfolding levels
returns-in_err-priority c =
    then _ (asked gain_said (λ p r q h. h) c.is_set.ensures c.in_ok-gain.ensures)
    (stops _ (asked number_said (λ p r q h. h) c.is_set-2.ensures c.in_err-priority.ensures) c.from_residual-in_err-priority.ensures.1)

-- what is given says what was read, also where a `map` puts an option together anew
pub returns : goal.returns
unfolding levels
returns c =
    then _ (asked gain_said (λ p r q h. h) c.is_set.ensures c.in_ok-gain.ensures)
    (then _ (asked number_said (λ p r q h. h) c.is_set-2.ensures c.in_ok-priority.ensures) (done_as (grind arith)))
