-- Start rows, written one after the other.
use Prim.Native.Nat.{ℕ, zero, suc, ◌+◌, ◌*◌, ◌≤◌, ◌<◌}
use mathlib.Core.Path.{◌≡◌, refl, ◌∙◌, ap}
use mathlib.Core.Bool.{Bool, true, false, cond, false≢true}
use mathlib.Core.List.{List, [], ◌∷◌, ◌++◌, map}
use native.Mathlib.Numerals.{add-one}
use native.Mathlib.Omega.{arith}
use lib.IntN.{ℤ}
use lib.ListN.{length, get_or, take}
use lib.Seq.{take-suc, length-take-le, take_all}
use Rattle.standard.specs.Numbers.{row_width}
use Rattle.standard.specs.Tree.{Kind, lfe, kind_code}
use Rattle.standard.specs.Rows.{Row, State, no_row, is}
use Rattle.standard.specs.Meaning.{held_row, default_row, same_kinds, start_rows}
use Rattle.standard.specs.Tables.{rows_numbers}
use Rattle.standard.specs.Calls.{over}
use Rattle.standard.proofs.Small.{and_right}
use Rattle.rows.specs.Places.{put}
use Rattle.rows.proofs.Rows.{put_next}

-- Each row

pub map_at : {A B : Type 0} (f : A → B) (l : List A) (i : ℕ) (d : A) (e : B) → i < length l → get_or (map f l) i e ≡ f (get_or l i d)
map_at f [] i d e h = absurd (omega arith)
map_at f (a ∷ l) zero d e h = refl
map_at f (a ∷ l) (suc i) d e h = map_at f l i d e (omega arith)

-- equal kinds are as many
pub same_length : (ks : List Kind) (rs : List Row) → same_kinds ks rs ≡ true → length rs ≡ length ks
unfolding same_kinds
same_length [] [] h = refl
same_length [] (r ∷ rs) h = absurd (false≢true h)
same_length (k ∷ ks) [] h = absurd (false≢true h)
same_length (k ∷ ks) (r ∷ rs) h = ap suc (same_length ks rs (and_right (is (kind_code k) r.kind) _ h))

pub start-at : (st : State) (ks : List Kind) (o : ℕ) → o < length ks
    → get_or (start_rows st ks) o no_row ≡ cond (same_kinds ks st.rows) (held_row st.doubt (get_or st.rows o no_row)) (default_row st.doubt (get_or ks o lfe))
unfolding start_rows
start-at st ks o h = go (same_kinds ks st.rows) refl
  where
    go : (b : Bool) → same_kinds ks st.rows ≡ b
        → get_or (cond b (map (held_row st.doubt) st.rows) (map (default_row st.doubt) ks)) o no_row ≡ cond b (held_row st.doubt (get_or st.rows o no_row)) (default_row st.doubt (get_or ks o lfe))
    go true e = let n = same_length ks st.rows e in map_at (held_row st.doubt) st.rows o no_row no_row (omega arith)
    go false e = map_at (default_row st.doubt) ks o lfe no_row h

-- without doubt a row that is held stands as it was
pub held-stand : (d : ℤ) → is 0 d ≡ true → (rs : List Row) → map (held_row d) rs ≡ rs
unfolding held_row
held-stand d h [] = refl
held-stand d h (r ∷ rs) = rw (h, held-stand d h rs)

pub starts-stand : (st : State) (ks : List Kind) → same_kinds ks st.rows ≡ true → is 0 st.doubt ≡ true → start_rows st ks ≡ st.rows
unfolding start_rows
starts-stand st ks same calm = rw same (held-stand st.doubt calm st.rows)

-- What a loop keeps that writes the rows rs one a turn: so far o of them

pub record Writing (rs : List Row) (l₀ : List ℤ) (o : ℕ) (l : List ℤ) : Type 0 where
  pub within : o ≤ length rs
  pub same : l ≡ over (rows_numbers (take o rs)) l₀

pub write-none : (rs : List Row) (l : List ℤ) → Writing rs l 0 l
unfolding rows_numbers
write-none rs l = record { within = omega arith; same = refl }

module _ {rs : List Row} {l₀ l : List ℤ} {o : ℕ} (fits : length rs * row_width ≤ length l₀) (w : Writing rs l₀ o l) where
  taken : length (take o rs) ≡ o
  taken = length-take-le o rs w.within

  pub write-row : o < length rs → Writing rs l₀ (o + 1) (put l (o * row_width) (get_or rs o no_row))
  unfolding row_width
  write-row h =
      let k = taken in
      let e : take (o + 1) rs ≡ take o rs ++ get_or rs o no_row ∷ [] = rw add-one (take-suc rs o no_row h) in
      record { within = omega arith; same = rw (w.same, e) (rw k at (put_next (take o rs) (get_or rs o no_row) l₀ (omega arith))) }

  pub write-all : length rs ≤ o → l ≡ over (rows_numbers rs) l₀
  write-all h = w.same ∙ ap (λ q. over (rows_numbers q) l₀) (take_all o rs h)
