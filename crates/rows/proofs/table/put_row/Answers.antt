-- The row's numbers take the part.
use Rattle.std.proofs.Common.{arith, ap, ◌∙◌, length}
use Rattle.std.proofs.lemmas.List.{length-take, length-drop}
use Rattle.rows.proofs.Written.{copied}
use Rattle.standard.specs.Numbers.{row_width}
use Rattle.rows.specs.Places.{put}
use Rattle.rows.proofs.Puts.{length-row}
use Rattle.rows.proofs.table.put_row.Goals as goal

pub returns : goal.returns
unfolding row_width put
returns c =
    let numbers = c.copy.ensures ∙ c.from.ensures in
    copied c.args.at _ c.args.table.now _ (omega arith) (ap length numbers ∙ length-row _ ∙ simp (length-take, length-drop) (omega arith)) numbers
