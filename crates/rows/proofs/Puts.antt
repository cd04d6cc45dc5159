-- Laws of a row that is put into a table. Callers keep `put` shut.
use Prim.Native.Nat.{ℕ, ◌+◌, ◌≤◌, ◌<◌}
use mathlib.Core.Path.{◌≡◌, refl, ap}
use mathlib.Core.Logic.{◌⊎◌}
use mathlib.Core.List.{List}
use lib.IntN.{ℤ, pos}
use lib.ListN.{length, get_or, drop}
use Rattle.standard.specs.Numbers.{row_width}
use Rattle.standard.specs.Rows.{Row}
use Rattle.standard.specs.Tables.{row_numbers, row_of}
use Rattle.rows.specs.Places.{row_at, put}
use Rattle.rows.proofs.Written.{length-written, part_same, part-other, drop-written, get_d-other}

pub length-row : (r : Row) → length (row_numbers r) ≡ row_width
unfolding row_numbers row_width
length-row r = refl

pub length-put : (l : List ℤ) (at : ℕ) (r : Row) → length (put l at r) ≡ length l
unfolding put
length-put l at r = length-written l at (row_numbers r)

-- the row is read back
pub put_same : (l : List ℤ) (at : ℕ) (r : Row) → at + row_width ≤ length l → row_at (put l at r) at ≡ r
unfolding row_at put row_width row_numbers row_of
put_same l at r h = ap row_of (part_same l at (row_numbers r) h)

-- another row is not changed
pub put_other : (l : List ℤ) (at i : ℕ) (r : Row) → (i + row_width ≤ at) ⊎ (at + row_width ≤ i) → row_at (put l at r) i ≡ row_at l i
unfolding row_at put row_width row_numbers
put_other l at i r h = ap row_of (part-other l at (row_numbers r) row_width i h)

-- nor what lies behind
pub drop-put : (n : ℕ) (l : List ℤ) (at : ℕ) (r : Row) → at + row_width ≤ n → drop n (put l at r) ≡ drop n l
unfolding put row_width row_numbers
drop-put n l at r h = drop-written n l at (row_numbers r) h

-- nor any number beside it
pub get_d-put-other : (l : List ℤ) (at i : ℕ) (r : Row) → (i < at) ⊎ (at + row_width ≤ i) → get_or (put l at r) i (pos 0) ≡ get_or l i (pos 0)
unfolding put row_width row_numbers
get_d-put-other l at i r h = get_d-other l at (row_numbers r) i (pos 0) h
