-- Test by test.
use Rattle.std.proofs.Common.{rules}
use Rattle.standard.specs.Tables.{picture_form, picture_tests}
use Rattle.rows.proofs.Tests.{joins}
use Rattle.rows.proofs.row.Picture.in_form.Goals as goal

pub returns : goal.returns
unfolding picture_form picture_tests
returns c = search (rules, joins)
