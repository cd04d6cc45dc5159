-- The paper's kind of each kind of the code, and of each number.
use Rattle.std.specs.Prelude.{ℤ, cond}
use Rattle.standard.specs.Tree as tree
use Rattle.standard.specs.Rows.{is}
use Rattle.rows.specs.declared.row.Kind.{Kind}
use Rattle.rows.specs.declared.row.Kind.TheVariants as kind

abbrev pub kind_said : Kind → tree.Kind
kind_said kind.Lfe = tree.lfe
kind_said kind.Bed = tree.bed
kind_said kind.Isf = tree.isf
kind_said kind.Dynamic = tree.dynamic

-- a number that is no kind's is read as a Dynamic
unfoldable pub kind_of : ℤ → tree.Kind
kind_of z = cond (is 0 z) tree.lfe (cond (is 1 z) tree.bed (cond (is 2 z) tree.isf tree.dynamic))
