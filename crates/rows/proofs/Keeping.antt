-- Laws of the retained table: read as a state, and written anew as a state's numbers over its head.
use Prim.Native.Nat.{ℕ, ◌+◌, ◌-◌, ◌*◌, ◌≤◌, ◌<◌}
use mathlib.Core.Path.{◌≡◌}
use mathlib.Core.Bool.{true, and-eq-true_iff}
use mathlib.Core.List.{List, [], ◌∷◌, ◌++◌}
use native.Mathlib.Omega.{arith}
use lib.IntN.{ℤ, pos}
use lib.ListN.{length, get_or, take, drop, set, replicate, length-append, length-drop, length-replicate}
use lib.Seq.{length-take-le}
use Rattle.standard.specs.Numbers.{row_width, object_limit, retained_head, retained_length}
use Rattle.standard.specs.Rows.{no_row}
use Rattle.standard.specs.Tables.{rows_of, count_of, state_of, state_numbers, in_form}
use Rattle.standard.specs.Calls.{over}
use Rattle.rows.specs.Places.{written, row_at}
use Rattle.rows.specs.Retained.{Countable, Keepable}
use Rattle.rows.proofs.Written.{written_after, written_over}
use Rattle.rows.proofs.Rows.{get_d-rows_of, length-rows_of, numbers-rows}

-- Read

-- what a table in form lets its count be read by
pub countable : (l : List ℤ) → retained_length ≤ length l → in_form l ≡ true → Countable l
unfolding in_form retained_length
countable l h e = record { there = omega arith; in_range = ((and-eq-true_iff _ _).0 ((and-eq-true_iff _ _).0 e).0).0 }

pub retained-row : (l : List ℤ) (i : ℕ) → i < count_of l → get_or (state_of l).rows i no_row ≡ row_at l (retained_head + i * row_width)
unfolding state_of
retained-row l i h = get_d-rows_of (count_of l) i retained_head l h

-- Written anew

-- the zeros behind n rows
zeros-left : (n : ℕ) → n ≤ object_limit → retained_length - (retained_head + n * row_width) ≡ row_width * (object_limit - n)
unfolding retained_length retained_head row_width object_limit
zeros-left n h = omega arith

-- a head, the numbers of n rows behind it, and zeros behind them
state-over : (n : ℕ) (vs l : List ℤ) → n ≤ object_limit → length vs ≡ n * row_width → retained_length ≤ length l
    → written (written (set (set l 0 (pos n)) 1 (pos 0)) retained_head vs) (retained_head + n * row_width) (replicate (retained_length - (retained_head + n * row_width)) (pos 0))
    ≡ over (pos n ∷ pos 0 ∷ vs ++ replicate (row_width * (object_limit - n)) (pos 0)) l
unfolding written retained_head retained_length row_width object_limit
state-over n vs l few e long =
    let head : List ℤ = pos n ∷ pos 0 ∷ [] in
    let zeros : List ℤ = replicate (row_width * (object_limit - n)) (pos 0) in
    let at : 0 + length (head ++ vs) ≡ retained_head + n * row_width = omega arith in
    let fits : length ((head ++ vs) ++ zeros) ≤ length l = simp (length-append, length-replicate) (omega arith) in
    rw (zeros-left n few, written_after l 0 head vs, ← at, written_after l 0 (head ++ vs) zeros)
    (written_over l ((head ++ vs) ++ zeros) fits)

state-numbers : (n : ℕ) (l : List ℤ) → n * row_width ≤ length l
    → state_numbers (record { doubt = pos 0; rows = rows_of n l }) ≡ pos n ∷ pos 0 ∷ take (n * row_width) l ++ replicate (row_width * (object_limit - n)) (pos 0)
unfolding state_numbers
state-numbers n l h = rw (length-rows_of n l, numbers-rows n l h)

pub kept : {l b : List ℤ} {first n : ℕ} → Keepable l b first n
    → written (written (set (set l 0 (pos n)) 1 (pos 0)) retained_head (take (n * row_width) (drop first b))) (retained_head + n * row_width) (replicate (retained_length - (retained_head + n * row_width)) (pos 0))
    ≡ over (state_numbers (record { doubt = pos 0; rows = rows_of n (drop first b) })) l
kept {l} {b} {first} {n} k =
    let there : n * row_width ≤ length (drop first b) = simp length-drop (omega arith) in
    rw (state-numbers n (drop first b) there)
    (state-over n (take (n * row_width) (drop first b)) l k.few (length-take-le (n * row_width) (drop first b) there) k.room)
