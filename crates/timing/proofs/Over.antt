-- What goes over a frame's end, by its three numbers.
use Prim.Native.Nat.{ℕ, zero, suc, ◌+◌, ◌-◌, ◌≤◌, ◌<◌}
use mathlib.Core.Path.{◌≡◌, refl, sym}
use mathlib.Core.Logic.{◌⊎◌, inl, inr, ⊎_elim}
use mathlib.Core.Bool.{Bool, true, false, cond}
use mathlib.Core.List.{List, [], ◌∷◌}
use native.Mathlib.Omega.{arith}
use borrow.Author.Tests.{ltb-true, lt-ltb, le-ltb, eqb-false, ne_eqb}
use lib.Dec.{ltb, eqb}
use lib.IntN.{ℤ}
use lib.ListN.{length}
use Rattle.std.specs.Prelude.{None, Some}
use Rattle.standard.specs.Numbers.{row_width, object_limit, start_length, frame_length, accepted}
use Rattle.standard.specs.Tree.{Timing}
use Rattle.standard.specs.Rows.{Row}
use Rattle.standard.specs.Tables.{rows_of, rows_numbers}
use Rattle.standard.specs.Timing.{end_of}
use Rattle.standard.specs.Carried.{rule2, Carried, nothing, timing_by, over_edge, onward, last_timing, carried_by}
use Rattle.standard.specs.Calls.{over}
use Rattle.standard.specs.CarriedCalls.{Going, dropped, carried_of, going_of, going_form, table_rows}
use Rattle.standard.proofs.RampPlaces.{Follows, passes-2, last_within}
use Rattle.rows.proofs.Rows.{length-rows_of, table-rows}
use Rattle.timing.specs.Blocks.{last_said}
use Rattle.timing.proofs.Carrying.{form-means}

-- Through a frame without blocks

module _ (g : Going) (l : List ℤ) where
  pub on-running : g.elapsed + frame_length < g.duration
      → record { objects = g.objects; elapsed = g.elapsed + frame_length; duration = g.duration } ≡ going_of (onward (carried_of g l))
  unfolding onward carried_of
  on-running h = rw (ne_eqb g.duration 0 (λ e. omega arith), lt-ltb (g.elapsed + frame_length) g.duration h, length-rows_of)

  pub on-ended : g.duration ≤ g.elapsed + frame_length → dropped ≡ going_of (onward (carried_of g l))
  unfolding onward carried_of nothing
  on-ended h = go (eqb g.duration 0)
    where
      go : (b : Bool) → dropped ≡ going_of (onward (cond b nothing (record { rows = rows_of g.objects l; elapsed = g.elapsed; duration = g.duration })))
      go true = rw (le-ltb (0 + frame_length) 0 (omega arith))
      go false = rw (le-ltb (g.elapsed + frame_length) g.duration h)

-- By the last timing, if there is one

module _ (ts : List Timing) where
  module _ {t : Timing} (last : Some t ≡ last_said ts) where
    pub carried-last : (c : Carried) (rows : List Row) → carried_by rule2 c rows ts ≡ over_edge rows t
    unfolding carried_by
    carried-last c rows = go ts last
      where
        go : (us : List Timing) → Some t ≡ last_said us → carried_by rule2 c rows us ≡ over_edge rows t
        go [] e = absurd (cc)
        go (u ∷ us) e = let k : t ≡ last_timing u us = cc in rw k

    -- where the timings pass it starts within the frame, or at its end
    pub starts-within : (m : ℕ) → timing_by rule2 m ts ≡ accepted → t.start ≤ frame_length
    starts-within m h = go ts last (passes-2 m ts h)
      where
        go : (us : List Timing) → Some t ≡ last_said us → Follows m us → t.start ≤ frame_length
        go [] e f = absurd (cc)
        go (u ∷ us) e f = let k : t ≡ last_timing u us = cc in rw k (last_within m u us f)

  pub carried-none : None ≡ last_said ts → (c : Carried) (rows : List Row) → carried_by rule2 c rows ts ≡ onward c
  unfolding carried_by
  carried-none e c rows = go ts e
    where
      go : (us : List Timing) → None ≡ last_said us → carried_by rule2 c rows us ≡ onward c
      go [] e = refl
      go (u ∷ us) e = absurd (cc)

-- The carried rows that are left

-- as many as there are objects
pub table-many : (start blocks : List ℤ) (n k : ℕ) → length (table_rows start blocks n k) ≡ n
unfolding table_rows
table-many start blocks n zero = length-rows_of n start
table-many start blocks n (suc k) = length-rows_of n _

-- a ramp goes over with the rows before its block, and nothing goes over without rows
over-rows : (rows : List Row) (t : Timing) → ((over_edge rows t).duration ≡ 0 → ⊥) → (over_edge rows t).rows ≡ rows
unfolding over_edge nothing
over-rows rows t = go (ltb frame_length (end_of t))
  where
    go : (b : Bool) → let c : Carried = cond b (record { rows = rows; elapsed = frame_length - t.start; duration = t.ramp }) nothing in (c.duration ≡ 0 → ⊥) → c.rows ≡ rows
    go true h = refl
    go false h = absurd (h refl)

pub rows-go : (c : Carried) (rows : List Row) (ts : List Timing) → (length ts ≡ 0 → ⊥) → ((carried_by rule2 c rows ts).duration ≡ 0 → ⊥) → (carried_by rule2 c rows ts).rows ≡ rows
unfolding carried_by
rows-go c rows [] s = absurd (s refl)
rows-go c rows (t ∷ ts) s = over-rows rows _

no_rows : (rows : List Row) (t : Timing) → t.start ≤ frame_length → (over_edge rows t).duration ≡ 0 → (over_edge rows t).rows ≡ []
unfolding over_edge nothing
no_rows rows t h = go (ltb frame_length (end_of t)) (ltb-true _ _)
  where
    go : (b : Bool) → (b ≡ true → frame_length < end_of t)
        → let c : Carried = cond b (record { rows = rows; elapsed = frame_length - t.start; duration = t.ramp }) nothing in c.duration ≡ 0 → c.rows ≡ []
    go true k e = let m = k refl in absurd (omega arith)
    go false k e = refl

-- rows that lie at the head of a table are written there again
head-stays : (n : ℕ) (l : List ℤ) → n ≤ object_limit → start_length ≤ length l → over (rows_numbers (rows_of n l)) l ≡ l
unfolding row_width object_limit start_length
head-stays n l h k = sym (table-rows n l l (omega arith) refl)

onward-stays : (g : Going) (l : List ℤ) → going_form g rule2 ≡ true → start_length ≤ length l → over (rows_numbers (onward (carried_of g l)).rows) l ≡ l
unfolding onward carried_of nothing rows_numbers
onward-stays g l h k = by (eqb g.duration 0) (eqb-false _ _)
  where
    few : (g.duration ≡ 0 → ⊥) → g.objects ≤ object_limit
    few d = ⊎_elim (λ e. absurd (d e)) (λ m. m.1) (form-means g h)

    on : (b : Bool) (c : Carried) → over (rows_numbers c.rows) l ≡ l → over (rows_numbers (cond b (record { rows = c.rows; elapsed = c.elapsed + frame_length; duration = c.duration }) nothing).rows) l ≡ l
    on true c e = e
    on false c e = refl

    by : (z : Bool) → (z ≡ false → g.duration ≡ 0 → ⊥) → let c : Carried = cond z nothing (record { rows = rows_of g.objects l; elapsed = g.elapsed; duration = g.duration }) in
        over (rows_numbers (cond (ltb (c.elapsed + frame_length) c.duration) (record { rows = c.rows; elapsed = c.elapsed + frame_length; duration = c.duration }) nothing).rows) l ≡ l
    by true d = on (ltb (0 + frame_length) 0) nothing refl
    by false d = on (ltb (g.elapsed + frame_length) g.duration) (record { rows = rows_of g.objects l; elapsed = g.elapsed; duration = g.duration }) (head-stays g.objects l (few (d refl)) k)

-- in a frame without blocks, or where nothing goes over, the table stays
pub rows_stay : (g : Going) (l : List ℤ) → going_form g rule2 ≡ true → start_length ≤ length l
    → (ts : List Timing) (rows : List Row) (m : ℕ) → timing_by rule2 m ts ≡ accepted
    → let c = carried_by rule2 (carried_of g l) rows ts in (length ts ≡ 0) ⊎ (c.duration ≡ 0) → over (rows_numbers c.rows) l ≡ l
unfolding carried_by rows_numbers
rows_stay g l h k [] rows m p e = onward-stays g l h k
rows_stay g l h k (t ∷ ts) rows m p (inl e) = absurd (omega arith)
rows_stay g l h k (t ∷ ts) rows m p (inr e) = rw (no_rows rows _ (last_within m _ _ (passes-2 m _ p)) e)
