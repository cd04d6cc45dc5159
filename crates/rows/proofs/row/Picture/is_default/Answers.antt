-- The derived equality is `same_picture`, number by number.
use Rattle.std.proofs.Common.{◌∙◌}
use Rattle.standard.specs.Tables.{is_default}
use Rattle.rows.proofs.Tests.{same-int}
use mathlib.Core.Bool.{and_assoc, and-true}
use Rattle.rows.proofs.row.Picture.is_default.Goals as goal

pub returns : goal.returns
unfolding is_default
returns c = rw (← c.default_picture.ensures) (c.eq.ensures ∙ simp (same-int, and_assoc, and-true))
