-- The retained rows, each as its numbers, and their kinds.
use Rattle.std.proofs.Common.{◌≡◌, ℕ, ◌<◌, ◌++◌, get_or, pos, ◌+◌, ◌*◌, ◌-◌, ◌≤◌, ◌&&◌, Bool, true, false, refl, sym, ap, ◌∙◌, List, [], ◌∷◌, ℤ, map, length, take, drop, arith}
use Rattle.std.specs.List.{zip, list_all}
use Rattle.std.specs.Simd.{first_chunks}
use Rattle.std.proofs.lemmas.List.{take_all, length-drop, length-map, length-take-le}
use Rattle.standard.specs.Numbers.{doubt_at, row_width, object_limit, retained_head, retained_length, start_length}
use Rattle.standard.specs.Tree as tree
use Rattle.standard.specs.Tree.{kind_code}
use Rattle.standard.specs.Rows.{Row, no_row, is}
use Rattle.standard.specs.Meaning.{held_row, held_rows, same_kinds}
use Rattle.standard.specs.Tables.{row_of, rows_numbers, count_of, state_of}
use Rattle.standard.specs.Calls.{over}
use Rattle.rows.specs.Places.{put}
use Rattle.rows.specs.Kinds.{kind_said}
use Rattle.rows.specs.declared.row.Kind.{Kind}
use Rattle.rows.specs.Retained.{Counted}
use Rattle.rows.proofs.Parts.{parts-rows}
use Rattle.rows.proofs.Rows.{length-rows_of, numbers-rows}
use Rattle.oamd.proofs.StartRows.{map_at, same_length, held-stand, Writing, write-row}

-- the rows behind the count and the doubt
pub rows_held : (l : List ℤ) {ps : List (List ℤ)} → ps ≡ first_chunks row_width (count_of l) (drop retained_head l) → map row_of ps ≡ (state_of l).rows
unfolding state_of
rows_held l e = ap (map row_of) e ∙ parts-rows _ _

module _ {l : List ℤ} (all : retained_length ≤ length l) {n : ℕ} (counted : Counted l n) where
  pub there : retained_head + n * row_width ≤ length l
  unfolding retained_head row_width retained_length object_limit
  there = omega (arith, all, counted.few)

  pub parts_there : n * row_width ≤ length (take (length l - 2) (drop 2 l))
  unfolding retained_head
  parts_there = let h = there in rw (take_all (length l - 2) (drop 2 l) (simp length-drop (omega arith))) (simp length-drop (omega arith))

  pub held-count : length (held_rows (state_of l)) ≡ n
  unfolding state_of
  held-count = length-map (state_of l).rows (held_row (state_of l).doubt) ∙ length-rows_of _ _ ∙ sym counted.same

  -- they have room
  pub held_fits : (z : List ℤ) → start_length ≤ length z → length (held_rows (state_of l)) * row_width ≤ length z
  unfolding row_width object_limit start_length
  held_fits z long = let k = held-count in omega (arith, counted.few)

  -- without doubt they are copied as they stand
  pub held-copied : (z : List ℤ) → is 0 (get_or l doubt_at (pos 0)) ≡ true → take (2 + n * row_width - 2) (drop 2 l) ++ drop (n * row_width) z ≡ over (rows_numbers (held_rows (state_of l))) z
  unfolding state_of retained_head
  held-copied z calm =
      let h = there in
      let long : n * row_width ≤ length (drop 2 l) = simp length-drop (omega arith) in
      let w : 2 + n * row_width - 2 ≡ n * row_width = omega arith in
      rw (w, held-stand (state_of l).doubt calm (state_of l).rows, ← counted.same, numbers-rows n (drop 2 l) long, length-take-le (n * row_width) (drop 2 l) long) refl

  -- in doubt each is written anew
  module _ {ps : List (List ℤ)} (e : ps ≡ first_chunks row_width (count_of l) (drop retained_head l)) where
    pub parts-count : length ps ≡ n
    unfolding state_of
    parts-count = sym (length-map ps row_of) ∙ ap length (rows_held l e) ∙ length-rows_of _ _ ∙ sym counted.same

    pub next_held : (z₀ z : List ℤ) (o : ℕ) → start_length ≤ length z₀ → o < length ps → Writing (held_rows (state_of l)) z₀ o z
        → Writing (held_rows (state_of l)) z₀ (o + 1) (put z (o * row_width) (held_row (get_or l doubt_at (pos 0)) (row_of (get_or ps o []))))
    unfolding state_of
    next_held z₀ z o long h w =
        let n = parts-count in
        let k = held-count in
        let rows = rows_held l e in
        let there : o < length (map row_of ps) = rw length-map h in
        rw (← map_at row_of ps o [] no_row h, ← map_at (held_row (state_of l).doubt) (map row_of ps) o no_row no_row there, rows)
        (write-row (held_fits z₀ long) w (omega arith))

-- a retained row of this kind
abbrev pub alike : Kind × List ℤ → Bool
alike p = is (kind_code (kind_said p.0)) (row_of p.1).kind

pub alike-all : (ks : List Kind) (ps : List (List ℤ)) → length ps ≡ length ks → list_all alike (zip ks ps) ≡ same_kinds (map kind_said ks) (map row_of ps)
unfolding same_kinds
alike-all [] [] e = refl
alike-all [] (p ∷ ps) e = absurd (omega arith)
alike-all (k ∷ ks) [] e = absurd (omega arith)
alike-all (k ∷ ks) (p ∷ ps) e = ap (λ b. alike (k, p) && b) (alike-all ks ps (omega arith))

-- other numbers of objects are other kinds
pub unlike-lengths : (ks : List tree.Kind) (rs : List Row) → (length rs ≡ length ks → ⊥) → same_kinds ks rs ≡ false
unlike-lengths ks rs d = go (same_kinds ks rs) refl
  where
    go : (b : Bool) → same_kinds ks rs ≡ b → b ≡ false
    go true e = absurd (d (same_length ks rs e))
    go false e = refl
