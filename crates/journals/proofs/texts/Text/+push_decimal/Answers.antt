-- The digits before the last are there, and one more has room.
use Rattle.std.proofs.Common.{arith}
use Rattle.journals.proofs.Putting.{puts, puts-more, puts-within, grown}
use Rattle.journals.proofs.Decimal.{one-digit, more-digits, one_more, twenty}
use Rattle.journals.proofs.texts.Text.+push_decimal.Goals as goal

pub returns-then-number-lt10 : goal.returns-then-number-lt10
returns-then-number-lt10 g t c =
    rw (one-digit c.if-number-lt10.true) (puts-within (puts c.push.ensures) 20 (omega arith))

pub push-requires-2 : goal.push-requires-2
push-requires-2 g t c =
    omega (arith, grown (puts-within c.push_decimal.ensures 19 (omega (arith, one_more c.if-number-lt10.false, twenty c.args.number c.ranges.number.fits))))

pub returns : goal.returns
returns g t c =
    let more = more-digits c.if-number-lt10.false in
    rw more
    (puts-within (puts-more c.push_decimal.ensures (puts c.push-2.ensures)) 20
    (rw more at (twenty c.args.number c.ranges.number.fits)))
