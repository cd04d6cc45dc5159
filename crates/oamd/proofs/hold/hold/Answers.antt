use Rattle.std.proofs.Common.{sym, ◌∙◌}
use Rattle.standard.specs.Numbers.{retained_length}
use Rattle.rows.proofs.Keeping.{countable}
use Rattle.oamd.proofs.hold.hold.Goals as goal

pub invariant_of-held : goal.invariant_of-held
unfolding retained_length
invariant_of-held c =
    let long = c.if-retained-lt-RETAINED_LENGTH.false in
    record { long = long; countable = countable _ long (sym c.in_form.ensures ∙ c.if-not-in_form.false) }
