-- The head's two tests, and the rows'.
use Rattle.std.proofs.Common.{arith}
use Rattle.standard.specs.Tables.{in_form, state_of}
use Rattle.standard.specs.Numbers.{object_limit}
use Rattle.rows.proofs.Tests.{joins}
use Rattle.rows.proofs.form.in_form.Goals as goal

pub returns-then-counted-doubted : goal.returns-then-counted-doubted
unfolding in_form state_of object_limit
returns-then-counted-doubted c = rw (← c.count_of.ensures.same) (grind (arith, joins))
