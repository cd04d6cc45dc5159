-- Columns written object by object are the rows block by block, written over the head of the table.
use Prim.Native.Nat.{ℕ, zero, suc, ◌+◌, ◌*◌, ◌<◌, ◌≤◌}
use mathlib.Core.Path.{◌≡◌, refl, ◌∙◌, ap}
use mathlib.Core.List.{List, [], ◌∷◌, ◌++◌}
use native.Mathlib.Nat.{zero-mul, suc-mul, zero-add, suc-add}
use native.Mathlib.Omega.{arith}
use lib.IntN.{ℤ}
use lib.ListN.{length, get_or, take, drop}
use lib.Seq.{drop-drop}
use Rattle.bits.proofs.Always.{All}
use Rattle.standard.specs.Numbers.{row_width}
use Rattle.standard.specs.Rows.{Row, no_row}
use Rattle.standard.specs.Tables.{row_of, rows_numbers, rows_of, in_block, by_block}
use Rattle.standard.specs.Calls.{over}
use Rattle.rows.specs.Places.{row_at}
use Rattle.objects.specs.Walk.{place}
use Rattle.rows.proofs.Rows.{rows_step, table-rows}
use Rattle.rows.proofs.Puts.{drop-put}
use Rattle.objects.proofs.Places.{within}
use Rattle.objects.proofs.Columns.{put_column, put_columns, column-keeps, other-column, column-row, column-length}

-- every column has m rows
abbrev pub Full : ℕ → List (List Row) → Type 0
Full m rss = All (λ (rs : List Row). length rs ≡ m) rss

-- What the columns leave

columns-length : (n o : ℕ) (rss : List (List Row)) (t : List ℤ) → length (put_columns n o rss t) ≡ length t
unfolding put_columns
columns-length n o [] t = refl
columns-length n o (rs ∷ rss) t = columns-length n (suc o) rss (put_column n o 0 rs t) ∙ column-length n o 0 rs t

columns-rest : (n m o : ℕ) (rss : List (List Row)) (t : List ℤ) → o + length rss ≤ n → Full m rss → drop (m * n * row_width) (put_columns n o rss t) ≡ drop (m * n * row_width) t
unfolding put_columns
columns-rest n m o [] t l f = refl
columns-rest n m o (rs ∷ rss) t l f =
    let e = f.0 in
    columns-rest n m (suc o) rss (put_column n o 0 rs t) (omega arith) f.1
    ∙ column-keeps (drop (m * n * row_width)) n o 0 rs t (λ u b r i j. drop-put (m * n * row_width) u (place n b o) r (within n m b o (omega arith) (omega arith)))

earlier-column : (n q b o : ℕ) (rss : List (List Row)) (t : List ℤ) → q < o → o + length rss ≤ n → row_at (put_columns n o rss t) (place n b q) ≡ row_at t (place n b q)
unfolding put_columns
earlier-column n q b o [] t h l = refl
earlier-column n q b o (rs ∷ rss) t h l =
    earlier-column n q b (suc o) rss (put_column n o 0 rs t) (omega arith) (omega arith) ∙ other-column n o q b 0 rs t (omega arith) (omega arith) (λ e. omega arith)

-- Block by block

-- j rows of block b from object o on
rows_in : ℕ → ℕ → ℕ → ℕ → List ℤ → List Row
rows_in n b o zero t = []
rows_in n b o (suc j) t = row_at t (place n b o) ∷ rows_in n b (suc o) j t

block-rows : (n m b o : ℕ) (rss : List (List Row)) (t : List ℤ) → o + length rss ≤ n → b < m → m * n * row_width ≤ length t → Full m rss
    → rows_in n b o (length rss) (put_columns n o rss t) ≡ in_block b rss
unfolding rows_in put_columns
block-rows n m b o [] t l h u f = refl
block-rows n m b o (rs ∷ rss) t l h u f =
    let t' = put_column n o 0 rs t in
    let k = f.0 in
    let e : 0 + b ≡ b = zero-add b in
    let first : row_at (put_columns n (suc o) rss t') (place n b o) ≡ get_or rs b no_row =
    earlier-column n o b (suc o) rss t' (omega arith) (omega arith) ∙ (rw e at (column-row n m o 0 b rs t (omega arith) (omega arith) (omega arith) u)) in
    λ i. first i ∷ block-rows n m b (suc o) rss t' (omega arith) h (rw (column-length n o 0 rs t) u) f.1 i

-- the same rows from the numbers of the block
read-block : (n b o j : ℕ) (t : List ℤ) → rows_of j (drop (place n b o) t) ≡ rows_in n b o j t
unfolding rows_of rows_in place row_width
read-block n b o zero t = refl
read-block n b o (suc j) t =
    let e : place n b o + row_width ≡ place n b (suc o) = omega arith in
    rows_step j (place n b o) t ∙ rw e (λ i. row_at t (place n b o) ∷ read-block n b (suc o) j t i)

next-rows : (i : ℕ) (l : List ℤ) → drop (i * row_width) (drop row_width l) ≡ drop (suc i * row_width) l
next-rows i l =
    let e : suc i * row_width ≡ i * row_width + row_width = suc-mul i row_width in
    let f : row_width + i * row_width ≡ suc i * row_width = omega arith in
    drop-drop (i * row_width) row_width l ∙ ap (λ z. drop z l) f

rows-add : (i j : ℕ) (l : List ℤ) → rows_of (i + j) l ≡ rows_of i l ++ rows_of j (drop (i * row_width) l)
unfolding rows_of
rows-add zero j l = rw (zero-add, zero-mul)
rows-add (suc i) j l =
    rw suc-add (λ x. row_of (take row_width l) ∷ (rows-add i j (drop row_width l) ∙ ap (λ z. rows_of i (drop row_width l) ++ rows_of j z) (next-rows i l)) x)

next-block : (n b : ℕ) (t : List ℤ) → drop (n * row_width) (drop (place n b 0) t) ≡ drop (place n (suc b) 0) t
unfolding place row_width
next-block n b t =
    let e : suc b * n ≡ b * n + n = suc-mul b n in
    let f : place n b 0 + n * row_width ≡ place n (suc b) 0 = omega arith in
    drop-drop (n * row_width) (place n b 0) t ∙ ap (λ i. drop i t) f

-- as many blocks as are there, from block b on
read-blocks : (n m k b : ℕ) (rss : List (List Row)) (t : List ℤ) → ((c : ℕ) → c < m → rows_in n c 0 n t ≡ in_block c rss) → b + k ≤ m
    → rows_of (k * n) (drop (place n b 0) t) ≡ by_block k b rss
unfolding by_block rows_of
read-blocks n m zero b rss t h l = rw zero-mul
read-blocks n m (suc k) b rss t h l =
    let e : suc k * n ≡ k * n + n = suc-mul k n in
    let f : suc k * n ≡ n + k * n = omega arith in
    rw f (rows-add n (k * n) (drop (place n b 0) t)
    ∙ (λ i. (read-block n b 0 n t ∙ h b (omega arith)) i ++ (ap (rows_of (k * n)) (next-block n b t) ∙ read-blocks n m k (suc b) rss t h (omega arith)) i))

first-place : (n : ℕ) (t : List ℤ) → drop (place n 0 0) t ≡ t
unfolding place row_width
first-place n t =
    let z = zero-mul n in
    let e : place n 0 0 ≡ 0 = omega arith in
    ap (λ i. drop i t) e

pub columns-blocks : (n m : ℕ) (rss : List (List Row)) (t : List ℤ) → length rss ≡ n → Full m rss → m * n * row_width ≤ length t
    → put_columns n 0 rss t ≡ over (rows_numbers (by_block m 0 rss)) t
columns-blocks n m rss t e f u =
    let T = put_columns n 0 rss t in
    let long = columns-length n 0 rss t in
    let rows : rows_of (m * n) T ≡ by_block m 0 rss = rw (first-place n T) at (read-blocks n m m 0 rss T (λ c h. rw e at (block-rows n m c 0 rss t (omega arith) h u f)) (omega arith)) in
    rw rows at (table-rows (m * n) T t (omega arith) (columns-rest n m 0 rss t (omega arith) f))
