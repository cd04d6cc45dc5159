-- Part by part, behind the head.
use Rattle.std.proofs.Common.{arith, ◌-◌, length, drop, sym, ◌∙◌}
use Rattle.std.proofs.lemmas.List.{take_all, length-drop}
use Rattle.standard.specs.Numbers.{retained_head}
use Rattle.standard.specs.Tables.{row_of, row_form}
use Rattle.rows.proofs.Parts.{parts-form, passed, failed, all-passed}
use Rattle.rows.proofs.form.rows_form.Goals as goal

pub loop-part-init : goal.loop-part-init
unfolding retained_head
loop-part-init c =
    rw (c.parts-part-items.ensures, take_all (length c.args.table.now - 2) (drop 2 c.args.table.now) (simp length-drop (omega arith))) (parts-form c.args.count (drop 2 c.args.table.now))

pub returns-then-not-row_form : goal.returns-then-not-row_form
returns-then-not-row_form c =
    failed (λ part. row_form (row_of part)) _ _ c.loop-part-test.true (rw (← c.from.ensures) (sym c.row_form.ensures ∙ c.if-not-row_form.true)) c.loop-part.invariant

pub loop-part-preserved : goal.loop-part-preserved
loop-part-preserved c =
    passed (λ part. row_form (row_of part)) _ _ c.loop-part-test.true (rw (← c.from.ensures) (sym c.row_form.ensures ∙ c.if-not-row_form.false)) c.loop-part.invariant

pub returns : goal.returns
returns c = all-passed (λ part. row_form (row_of part)) c.parts-part-items.result.now c.loop-part.part-index (omega (arith, c.loop-part-test.false)) c.loop-part.invariant
