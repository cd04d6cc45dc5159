use Rattle.std.proofs.Common.{◌∙◌}
use Rattle.standard.specs.Tree.{kept}
use Rattle.standard.specs.Marks.{bits_of, settles, new_mark}
use Rattle.standard.proofs.MarkLaws.{mark-none, bits-tell}
use Rattle.rows.proofs.Tests.{back}
use Rattle.update.proofs.MarkBits.{word-bits}
use Rattle.update.proofs.meaning.row_mark.Goals as goal

-- render status 0
pub returns-in-Default : goal.returns-in-Default
unfolding bits_of new_mark settles
returns-in-Default c = rw (c.if-not-dynamic.false, c.in-Default.is)

-- status 2
pub returns-in-Kept : goal.returns-in-Kept
unfolding settles
returns-in-Kept c =
    rw (c.if-not-dynamic.false, c.in-Kept.is, back {z = c.risen.result} c.risen.type_inv)
    ((rw (back {z = c.args.before} c.ranges.before.sfits) at c.risen.ensures) ∙ word-bits kept 0 c.args.before mark-none)

-- status 1 or 3
pub returns-in-Given : goal.returns-in-Given
returns-in-Given c =
    rw (c.if-not-dynamic.false, c.in-Given.is, back {z = c.risen-in-Given.result} c.risen-in-Given.type_inv)
    ((rw (back {z = c.args.before} c.ranges.before.sfits, c.settled_by.ensures) at c.risen-in-Given.ensures) ∙ word-bits _ _ c.args.before (λ g. bits-tell g _))
