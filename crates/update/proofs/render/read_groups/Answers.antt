use Rattle.std.proofs.Common.{arith}
use Rattle.standard.specs.Updates.{groups}
use Rattle.rows.specs.Say.{zone_said, size_said}
use Rattle.update.specs.Say.{number_said, position_said}
use Rattle.bits.proofs.Reading.{then, stops, done_as}
use Rattle.rows.proofs.Tests.{back}
use Rattle.update.proofs.Asking.{asked, stands, stands_not}
use Rattle.update.proofs.render.read_groups.Goals as goal

pub returns-in_err-position : goal.returns-in_err-position
unfolding groups
returns-in_err-position c =
    stops _ (asked position_said (λ p r q h. h) c.is_set.ensures c.in_err-position.ensures) c.from_residual.ensures.1

pub returns-in_err-zone : goal.returns-in_err-zone
unfolding groups
returns-in_err-zone c =
    then _ (asked position_said (λ p r q h. h) c.is_set.ensures c.in_ok-position.ensures)
    (stops _ (asked zone_said (λ p r q h. h) c.is_set-2.ensures c.in_err-zone.ensures) c.from_residual-in_err-zone.ensures.1)

pub returns-in_err-size : goal.returns-in_err-size
unfolding groups
returns-in_err-size c =
    then _ (asked position_said (λ p r q h. h) c.is_set.ensures c.in_ok-position.ensures)
    (then _ (asked zone_said (λ p r q h. h) c.is_set-2.ensures c.in_ok-zone.ensures)
    (stops _ (asked size_said (λ p r q h. h) c.is_set-3.ensures c.in_err-size.ensures) c.from_residual-in_err-size.ensures.1))

pub returns-in_err-screen : goal.returns-in_err-screen
unfolding groups
returns-in_err-screen c =
    then _ (asked position_said (λ p r q h. h) c.is_set.ensures c.in_ok-position.ensures)
    (then _ (asked zone_said (λ p r q h. h) c.is_set-2.ensures c.in_ok-zone.ensures)
    (then _ (asked size_said (λ p r q h. h) c.is_set-3.ensures c.in_ok-size.ensures)
    (stops _ (asked number_said (λ p r q h. h) c.is_set-4.ensures c.in_err-screen.ensures) c.from_residual-in_err-screen.ensures.1)))

pub returns-in_err-word : goal.returns-in_err-word
unfolding groups
returns-in_err-word c =
    then _ (asked position_said (λ p r q h. h) c.is_set.ensures c.in_ok-position.ensures)
    (then _ (asked zone_said (λ p r q h. h) c.is_set-2.ensures c.in_ok-zone.ensures)
    (then _ (asked size_said (λ p r q h. h) c.is_set-3.ensures c.in_ok-size.ensures)
    (then _ (asked number_said (λ p r q h. h) c.is_set-4.ensures c.in_ok-screen.ensures)
    (stops _ (stands_not {say = number_said} c.in_err-word.ensures) c.from_residual-in_err-word.ensures.1))))

-- what is given says what was read, also where a `map` puts an option together anew
pub returns : goal.returns
unfolding groups
returns c =
    then _ (asked position_said (λ p r q h. h) c.is_set.ensures c.in_ok-position.ensures)
    (then _ (asked zone_said (λ p r q h. h) c.is_set-2.ensures c.in_ok-zone.ensures)
    (then _ (asked size_said (λ p r q h. h) c.is_set-3.ensures c.in_ok-size.ensures)
    (then _ (asked number_said (λ p r q h. h) c.is_set-4.ensures c.in_ok-screen.ensures)
    (then _ (stands {say = number_said} c.in_ok-word.ensures) (rw (back {z = c.in_ok-word.word} (omega (arith, rw c.in_ok-word.was at c.read_lock.type_inv))) (done_as (grind arith)))))))
