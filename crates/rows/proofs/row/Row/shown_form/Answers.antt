-- Test by test, as the definition lists them.
use Rattle.std.proofs.Common.{rules, ◌∙◌}
use Rattle.standard.specs.Tables.{shown_form, shown_tests, mark_form}
use Rattle.rows.specs.Say.{row_said}
use Rattle.rows.proofs.Lists.{◌and◌, no_more}
use Rattle.rows.proofs.Tests.{all_pass}
use Rattle.rows.proofs.row.Row.shown_form.Goals as goal

pub returns : goal.returns
unfolding shown_form shown_tests mark_form
returns c =
    all_pass (shown_tests (row_said c.args.self))
    (c.within.ensures ∙ search rules
    and c.within-2.ensures ∙ search rules
    and c.gain_form.ensures ∙ search rules
    and c.within-3.ensures ∙ search rules
    and c.in_form.ensures
    and c.within-4.ensures ∙ search rules
    and c.active_form.ensures
    and c.fixed_form.ensures
    and no_more)
