-- Laws of the rows that a table's numbers are, one after the other.
use Prim.Native.Nat.{ℕ, zero, suc, ◌+◌, ◌*◌, ◌≤◌, ◌<◌}
use mathlib.Core.Path.{◌≡◌, refl, sym, ap, ◌∙◌}
use mathlib.Core.List.{List, [], ◌∷◌, ◌++◌, append_assoc, append-nil}
use native.Mathlib.Nat.{zero-add, zero-mul, add-zero, not-suc-le-zero}
use native.Mathlib.Omega.{arith}
use lib.IntN.{ℤ, pos}
use lib.ListN.{length, get_or, take, drop, length-drop, take-append-drop}
use lib.Seq.{drop-drop, drop-cons, drop-length, length-take-le, take_at}
use Rattle.standard.specs.Numbers.{row_width}
use Rattle.standard.specs.Rows.{Row, no_row}
use Rattle.standard.specs.Tables.{row_numbers, row_of, rows_numbers, rows_of}
use Rattle.standard.specs.Calls.{over}
pub use Rattle.standard.proofs.Laid.{rows_back, rows-length as length-rows_numbers, rows-of-length as length-rows_of, rows_append as rows_numbers-append}
use Rattle.rows.specs.Places.{written, row_at, put}
use Rattle.rows.proofs.Written.{written_over, over-next}
use Rattle.rows.proofs.Puts.{length-row}

-- Read from a table

pub rows_step : (n at : ℕ) (l : List ℤ) → rows_of (suc n) (drop at l) ≡ row_at l at ∷ rows_of n (drop (at + row_width) l)
unfolding rows_of row_at
rows_step n at l = ap (λ (m : List ℤ). row_at l at ∷ rows_of n m) (drop-drop row_width at l)

-- row i of those that begin at `at`
pub get_d-rows_of : (n i at : ℕ) (l : List ℤ) → i < n → get_or (rows_of n (drop at l)) i no_row ≡ row_at l (at + i * row_width)
unfolding row_width
get_d-rows_of zero i at l h = absurd (not-suc-le-zero h)
get_d-rows_of (suc n) zero at l h = rw (rows_step n at l, zero-mul, add-zero)
get_d-rows_of (suc n) (suc i) at l h =
    let e : at + row_width + i * row_width ≡ at + suc i * row_width = omega arith in
    rw (rows_step n at l) (get_d-rows_of n i (at + row_width) l (omega arith) ∙ ap (row_at l) e)

-- Laid out as numbers

pub length-rows : (n : ℕ) (l : List ℤ) → length (rows_numbers (rows_of n l)) ≡ n * row_width
length-rows n l = length-rows_numbers (rows_of n l) ∙ ap (λ (m : ℕ). m * row_width) (length-rows_of n l)

-- Laid out, and read again

-- row i of the rows written over a table's head
pub row_at-over : (rs : List Row) (l : List ℤ) (i : ℕ) → i < length rs → row_at (over (rows_numbers rs) l) (i * row_width) ≡ get_or rs i no_row
row_at-over rs l i h =
    sym (rw zero-add at (get_d-rows_of (length rs) i 0 (over (rows_numbers rs) l) h))
    ∙ ap (λ (q : List Row). get_or q i no_row) (rows_back rs (drop (length (rows_numbers rs)) l))

-- Read, and laid out again

-- k numbers from number i on
run : ℕ → ℕ → List ℤ → List ℤ
run zero i l = []
run (suc k) i l = get_or l i (pos 0) ∷ run k (suc i) l

run-all : (k i : ℕ) (l : List ℤ) → length l ≡ i + k → run k i l ≡ drop i l
unfolding run
run-all zero i l e =
    let f : i ≡ length l = omega arith in
    rw (f, drop-length)
run-all (suc k) i l e =
    rw (drop-cons l i (pos 0) (omega arith)) (ap (λ (m : List ℤ). get_or l i (pos 0) ∷ m) (run-all k (suc i) l (omega arith)))

pub row-forth : (l : List ℤ) → length l ≡ row_width → row_numbers (row_of l) ≡ l
unfolding run row_width row_numbers row_of
row-forth l e = run-all row_width 0 l e

pub rows-forth : (n : ℕ) (l : List ℤ) → n * row_width ≤ length l → rows_numbers (rows_of n l) ++ drop (n * row_width) l ≡ l
unfolding rows_numbers rows_of row_width
rows-forth zero l h = refl
rows-forth (suc n) l h =
    let first : row_numbers (row_of (take row_width l)) ≡ take row_width l = row-forth (take row_width l) (length-take-le row_width l (omega arith)) in
    let e : suc n * row_width ≡ row_width + n * row_width = omega arith in
    let rest : n * row_width ≤ length (drop row_width l) = simp length-drop (omega arith) in
    rw (
      append_assoc (row_numbers (row_of (take row_width l))) (rows_numbers (rows_of n (drop row_width l))) (drop (suc n * row_width) l),
      first,
      e,
      ← drop-drop (n * row_width) row_width l,
      rows-forth n (drop row_width l) rest,
    )
    (take-append-drop row_width l)

pub numbers-rows : (n : ℕ) (l : List ℤ) → n * row_width ≤ length l → rows_numbers (rows_of n l) ≡ take (n * row_width) l
numbers-rows n l h =
    sym (take_at (rows_numbers (rows_of n l)) (drop (n * row_width) l) (n * row_width) (length-rows n l)) ∙ ap (take (n * row_width)) (rows-forth n l h)

-- n rows of b, from `first` on, are copied to the head of l
pub rows-copied : (n first : ℕ) (b l : List ℤ) → first + n * row_width ≤ length b → n * row_width ≤ length l
    → written l 0 (take (n * row_width) (drop first b)) ≡ over (rows_numbers (rows_of n (drop first b))) l
rows-copied n first b l h k =
    let there : n * row_width ≤ length (drop first b) = simp length-drop (omega arith) in
    rw (numbers-rows n (drop first b) there) (written_over l _ (let e = length-take-le (n * row_width) (drop first b) there in omega arith))

-- a table that differs from l in its first n rows alone
pub table-rows : (n : ℕ) (t l : List ℤ) → n * row_width ≤ length t → drop (n * row_width) t ≡ drop (n * row_width) l → t ≡ over (rows_numbers (rows_of n t)) l
table-rows n t l h e = rw (length-rows n t, ← e) (sym (rows-forth n t h))

-- Written one after the other

pub put_next : (rs : List Row) (r : Row) (l : List ℤ) → length rs * row_width + row_width ≤ length l
    → put (over (rows_numbers rs) l) (length rs * row_width) r ≡ over (rows_numbers (rs ++ r ∷ [])) l
unfolding put rows_numbers
put_next rs r l h =
    let n = length-rows_numbers rs in
    let k = length-row r in
    rw (← n, rows_numbers-append rs (r ∷ []), append-nil) (over-next l (rows_numbers rs) (row_numbers r) (omega arith))
