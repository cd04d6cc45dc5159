-- The zeros are written over the table's head.
use Rattle.std.proofs.Common.{rules, refl, pos}
use borrow.Author.Tests.{le-leb}
use Rattle.standard.specs.Numbers.{retained_length}
use Rattle.standard.specs.Calls.{programme_start, renewed}
use Rattle.rows.proofs.Written.{head-filled}
use Rattle.rows.proofs.calls.programme_start.Goals as goal

pub returns : goal.returns
unfolding programme_start renewed retained_length
returns c =
    let long = c.if-retained-lt-RETAINED_LENGTH.false in
    rw (le-leb _ _ long)
    (record { number = refl; retained = head-filled _ c.args.retained.now _ (pos 0) long (c.fill.ensures.after (λ y h. search rules)) })
