-- What is laid out in a table is read back: rows, timings and the retained state.
use Prim.Native.Nat.{ℕ, zero, suc, ◌+◌, ◌*◌, ◌-◌, ◌≤◌, ◌<◌}
use mathlib.Core.Path.{◌≡◌, refl, sym, ◌∙◌, ap}
use mathlib.Core.List.{List, [], ◌∷◌, ◌++◌, append_assoc}
use native.Mathlib.Omega.{arith}
use native.Mathlib.Nat.{zero-mul}
use lib.IntN.{ℤ, pos}
use lib.ListN.{length, get_or, take, drop, replicate, length-append, length-drop, length-replicate, replicate-append-replicate}
use lib.Seq.{drop_at, drop-append_seam, drop-append-add}
use Rattle.standard.specs.Numbers.{row_width, object_limit, retained_head, retained_length, kind_at, active_at, gain_at, priority_at, x_at, y_at, z_at, width_at, depth_at, height_at, screen_at, lock_at, zone_at, elevation_at, distance_at, mark_at}
use Rattle.standard.specs.Tree.{Timing}
use Rattle.standard.specs.Rows.{Row, State, no_row}
use Rattle.standard.specs.Tables.{row_numbers, row_of, rows_numbers, rows_of, timing_numbers, timings_of, count_of, state_of, state_numbers}
use Rattle.standard.specs.Calls.{over, row_part}

pub over-length : {A : Type 0} (new l : List A) → length new ≤ length l → length (over new l) ≡ length l
over-length new l h = simp (length-append, length-drop) (omega arith)

pub over-rest : {A : Type 0} (new l : List A) (n : ℕ) → length new ≡ n → drop n (over new l) ≡ drop n l
over-rest new l n e = drop_at new (drop (length new) l) n e ∙ ap (λ k. drop k l) e

-- one thing over more of it
pub over-same : {A : Type 0} (k n : ℕ) (a : A) → k ≤ n → over (replicate k a) (replicate n a) ≡ replicate n a
over-same k n a h =
    let e : n ≡ k + (n - k) = omega arith in
    let split : replicate n a ≡ replicate k a ++ replicate (n - k) a = ap (λ m. replicate m a) e ∙ sym (replicate-append-replicate k (n - k) a) in
    ap (over (replicate k a)) split ∙ ap (λ z. replicate k a ++ z) (drop-append_seam (replicate k a) (replicate (n - k) a)) ∙ sym split

-- Where each number of a row stands

pub record InColumns (r : Row) (l : List ℤ) : Type 0 where
  pub kind : get_or l kind_at (pos 0) ≡ r.kind
  pub active : get_or l active_at (pos 0) ≡ r.active
  pub gain : get_or l gain_at (pos 0) ≡ r.gain
  pub priority : get_or l priority_at (pos 0) ≡ r.priority
  pub x : get_or l x_at (pos 0) ≡ r.picture.position.point.x
  pub y : get_or l y_at (pos 0) ≡ r.picture.position.point.y
  pub z : get_or l z_at (pos 0) ≡ r.picture.position.point.z
  pub width : get_or l width_at (pos 0) ≡ r.picture.size.width
  pub depth : get_or l depth_at (pos 0) ≡ r.picture.size.depth
  pub height : get_or l height_at (pos 0) ≡ r.picture.size.height
  pub screen : get_or l screen_at (pos 0) ≡ r.picture.screen
  pub lock : get_or l lock_at (pos 0) ≡ r.picture.lock
  pub zone : get_or l zone_at (pos 0) ≡ r.picture.zone.zone
  pub elevation : get_or l elevation_at (pos 0) ≡ r.picture.zone.elevation
  pub distance : get_or l distance_at (pos 0) ≡ r.picture.position.distance
  pub mark : get_or l mark_at (pos 0) ≡ r.mark
  pub all : length l ≡ row_width

pub columns : (r : Row) → InColumns r (row_numbers r)
unfolding row_numbers row_width
columns r =
    record {
      kind = refl;
      active = refl;
      gain = refl;
      priority = refl;
      x = refl;
      y = refl;
      z = refl;
      width = refl;
      depth = refl;
      height = refl;
      screen = refl;
      lock = refl;
      zone = refl;
      elevation = refl;
      distance = refl;
      mark = refl;
      all = refl;
    }

-- One row

row_back : (r : Row) (z : List ℤ) → row_of (take row_width (row_numbers r ++ z)) ≡ r
unfolding row_of row_numbers row_width
row_back r z = refl

row-rest : (r : Row) (z : List ℤ) → drop row_width (row_numbers r ++ z) ≡ z
unfolding row_numbers row_width
row-rest r z = refl

row-length : (r : Row) (z : List ℤ) → length (row_numbers r ++ z) ≡ row_width + length z
unfolding row_numbers row_width
row-length r z = omega arith

-- Rows

pub rows_back : (rs : List Row) (z : List ℤ) → rows_of (length rs) (rows_numbers rs ++ z) ≡ rs
unfolding rows_of rows_numbers
rows_back [] z = refl
rows_back (r ∷ rs) z =
    rw (append_assoc (row_numbers r) (rows_numbers rs) z, row_back r (rows_numbers rs ++ z), row-rest r (rows_numbers rs ++ z))
    (ap (λ q. r ∷ q) (rows_back rs z))

pub rows-length : (rs : List Row) → length (rows_numbers rs) ≡ length rs * row_width
unfolding rows_numbers row_width
rows-length [] = refl
rows-length (r ∷ rs) = let e = row-length r (rows_numbers rs) in let h = rows-length rs in omega arith

pub rows-of-length : (n : ℕ) (l : List ℤ) → length (rows_of n l) ≡ n
unfolding rows_of
rows-of-length zero l = refl
rows-of-length (suc n) l = ap suc (rows-of-length n (drop row_width l))

row-past : (r : Row) (z : List ℤ) (i : ℕ) → drop (suc i * row_width) (row_numbers r ++ z) ≡ drop (i * row_width) z
unfolding row_numbers row_width
row-past r z i = let e : suc i * row_width ≡ row_width + i * row_width = omega arith in rw e (drop-append-add (row_numbers r) z (i * row_width))

pub rows_append : (xs ys : List Row) → rows_numbers (xs ++ ys) ≡ rows_numbers xs ++ rows_numbers ys
unfolding rows_numbers
rows_append [] ys = refl
rows_append (x ∷ xs) ys = ap (λ z. row_numbers x ++ z) (rows_append xs ys) ∙ sym (append_assoc (row_numbers x) (rows_numbers xs) (rows_numbers ys))

-- row i of those that were laid out
pub part-back : (rs : List Row) (z : List ℤ) (i : ℕ) → i < length rs → row_of (row_part (rows_numbers rs ++ z) i) ≡ get_or rs i no_row
unfolding row_part rows_numbers
part-back [] z i h = absurd (omega arith)
part-back (r ∷ rs) z zero h = rw (append_assoc (row_numbers r) (rows_numbers rs) z, zero-mul row_width) (row_back r (rows_numbers rs ++ z))
part-back (r ∷ rs) z (suc i) h =
    rw (append_assoc (row_numbers r) (rows_numbers rs) z, row-past r (rows_numbers rs ++ z) i) (part-back rs z i (omega arith))

-- Timings

pub timings-back : (ts : List Timing) (z : List ℕ) → timings_of (length ts) (timing_numbers ts ++ z) ≡ ts
unfolding timings_of timing_numbers
timings-back [] z = refl
timings-back (t ∷ ts) z = ap (λ q. t ∷ q) (timings-back ts z)

pub timings-length : (ts : List Timing) → length (timing_numbers ts) ≡ 2 * length ts
unfolding timing_numbers
timings-length [] = refl
timings-length (t ∷ ts) = let h = timings-length ts in omega arith

-- The retained state

pub state-back : (st : State) (l : List ℤ) → state_of (over (state_numbers st) l) ≡ st
unfolding state_of state_numbers count_of retained_head
state-back st l = λ i. record { doubt = st.doubt; rows = rows i }
  where
    rows : rows_of (length st.rows) (drop 2 (over (state_numbers st) l)) ≡ st.rows
    rows = rw (append_assoc (rows_numbers st.rows) _ _) (rows_back st.rows _)

pub state-length : (st : State) → length st.rows ≤ object_limit → length (state_numbers st) ≡ retained_length
unfolding state_numbers retained_length
state-length st h = let e = rows-length st.rows in simp (length-append, length-replicate) (omega arith)
