-- Another count of objects is a change of kinds.
use Rattle.std.proofs.Common.{sym, ◌∙◌}
use borrow.Author.Tests.{ne_eqb}
use Rattle.rows.proofs.Rows.{length-rows_of}
use Rattle.timing.proofs.Agreeing.{unlike-counts}
use Rattle.timing.proofs.frame.Frame.takes.Goals as goal

pub returns-then-ramp-self : goal.returns-then-ramp-self
returns-then-ramp-self c = rw c.if-ramp-self.true c.kinds_agree.ensures

pub returns-else-ramp-self : goal.returns-else-ramp-self
returns-else-ramp-self c =
    ne_eqb _ _ c.if-ramp-self.false
    ∙ sym (unlike-counts _ _ (λ e. c.if-ramp-self.false (sym (length-rows_of c.args.ramp.objects c.args.carried.now) ∙ e ∙ length-rows_of c.args.self.now.objects c.args.self.now.start.now)))
