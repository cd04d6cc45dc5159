-- Numbers stored from a place of a table on, and the row that begins there.
use Rattle.std.specs.Prelude.{ℕ, List, ℤ, take, drop}
use Rattle.std.proofs.lemmas.List.Edits.{sets}
use Rattle.standard.specs.Numbers.{row_width}
use Rattle.standard.specs.Rows.{Row}
use Rattle.standard.specs.Tables.{row_numbers, row_of}

module _ {A : Type 0} where
  -- the list l with vs stored from place `at` on
  unfoldable pub written : List A → ℕ → List A → List A
  written l at vs = sets l at vs

unfoldable pub row_at : List ℤ → ℕ → Row
row_at l at = row_of (take row_width (drop at l))

unfoldable pub put : List ℤ → ℕ → Row → List ℤ
put l at r = written l at (row_numbers r)
