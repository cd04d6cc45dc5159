-- The parts that are left say what all of them do.
use Rattle.std.proofs.Common.{◌≡◌, drop}
use Rattle.std.specs.List.{list_all}
use Rattle.standard.specs.Tables.{row_of, shown_form, rows_of, all_shown}
use Rattle.rows.proofs.form.all_shown.Given as goal

abbrev pub invariant-loop-part : goal.invariant-loop-part
invariant-loop-part l = list_all (λ part. shown_form (row_of part)) (drop l.part-index l.part-items) ≡ all_shown (rows_of l.count l.table)
