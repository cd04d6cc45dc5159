-- The point's tests and the distance's.
use Rattle.std.proofs.Common.{rules}
use Rattle.standard.specs.Tables.{position_form}
use Rattle.rows.proofs.Tests.{joins}
use Rattle.rows.proofs.row.Picture.position_form.Goals as goal

pub returns : goal.returns
unfolding position_form
returns c = search (rules, joins, c.in_form.ensures, c.within.ensures)
