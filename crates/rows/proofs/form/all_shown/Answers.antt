-- Part by part.
use Rattle.std.proofs.Common.{arith, sym, ◌∙◌}
use Rattle.standard.specs.Tables.{row_of, shown_form}
use Rattle.rows.proofs.Parts.{parts-shown, passed, failed, all-passed}
use Rattle.rows.proofs.form.all_shown.Goals as goal

pub loop-part-init : goal.loop-part-init
loop-part-init c = rw c.parts-part-items.ensures (parts-shown c.args.count c.args.table.now)

pub returns-then-not-shown_form : goal.returns-then-not-shown_form
returns-then-not-shown_form c =
    failed (λ part. shown_form (row_of part)) _ _ c.loop-part-test.true (rw (← c.from.ensures) (sym c.shown_form.ensures ∙ c.if-not-shown_form.true)) c.loop-part.invariant

pub loop-part-preserved : goal.loop-part-preserved
loop-part-preserved c =
    passed (λ part. shown_form (row_of part)) _ _ c.loop-part-test.true (rw (← c.from.ensures) (sym c.shown_form.ensures ∙ c.if-not-shown_form.false)) c.loop-part.invariant

pub returns : goal.returns
returns c = all-passed (λ part. shown_form (row_of part)) c.parts-part-items.result.now c.loop-part.part-index (omega (arith, c.loop-part-test.false)) c.loop-part.invariant
