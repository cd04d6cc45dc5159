-- The parts that are left say what all of them do.
use Rattle.std.proofs.Common.{◌≡◌, drop}
use Rattle.std.specs.List.{list_all}
use Rattle.standard.specs.Numbers.{retained_head}
use Rattle.standard.specs.Tables.{row_of, row_form, rows_of, all_form}
use Rattle.rows.proofs.form.rows_form.Given as goal

abbrev pub invariant-loop-part : goal.invariant-loop-part
invariant-loop-part l = list_all (λ part. row_form (row_of part)) (drop l.part-index l.part-items) ≡ all_form (rows_of l.count (drop retained_head l.table))
