-- By what is told.
use Rattle.std.proofs.Common.{refl, ap}
use Rattle.standard.specs.Journal.{answered, reply_to}
use Rattle.journals.proofs.replies.reply_to.Goals as goal

pub returns-in-Payload : goal.returns-in-Payload
unfolding reply_to
returns-in-Payload c =
    let d = c.decode.ensures in
    rw c.in-Payload.is (record { reply = ap answered d.answer; retained = d.retained; start = d.start; blocks = d.blocks; timings = d.timings })

pub returns-in-Gap : goal.returns-in-Gap
unfolding reply_to
returns-in-Gap c = rw c.in-Gap.is (record { reply = refl; retained = c.gap.ensures.retained; start = refl; blocks = refl; timings = refl })

pub returns-in-Reset : goal.returns-in-Reset
unfolding reply_to
returns-in-Reset c =
    rw c.in-Reset.is (record { reply = refl; retained = c.reset.ensures.retained; start = refl; blocks = refl; timings = refl })

pub returns-in-Start : goal.returns-in-Start
unfolding reply_to
returns-in-Start c =
    rw c.in-Start.is (record { reply = refl; retained = c.programme_start.ensures.retained; start = refl; blocks = refl; timings = refl })
