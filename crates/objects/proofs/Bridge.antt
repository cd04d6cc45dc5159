-- The walk through the table does what the two layers do, column by column.
use Prim.Native.Nat.{ℕ, zero, suc, ◌+◌, ◌*◌, ◌<◌, ◌≤◌}
use mathlib.Core.Path.{◌≡◌, refl, sym, ◌∙◌, ap}
use mathlib.Core.Bool.{true, false}
use mathlib.Core.List.{List, [], ◌∷◌, map}
use native.Mathlib.Omega.{arith}
use lib.IntN.{ℤ}
use lib.ListN.{length, drop}
use lib.Seq.{drop-drop}
use borrow.Author.Tests.{ne_eqb}
use Rattle.bits.specs.Parsed.{and_then, map_parsed, ◌>>=◌, pure, times, each}
use Rattle.bits.proofs.Always.{Always, together}
use Rattle.bits.proofs.ParsedLaws.{then-got, map-then, then_map, map_last, then-such}
use Rattle.standard.specs.Numbers.{row_width}
use Rattle.standard.specs.Tree.{Kind, Object}
use Rattle.standard.specs.Updates.{update, object}
use Rattle.standard.specs.Rows.{Row}
use Rattle.standard.specs.Meaning.{updated, object_rows, all_rows, gain_of}
use Rattle.standard.specs.Tables.{rows_of}
use Rattle.standard.proofs.RowsOfFrame.{object-rows-length}
use Rattle.standard.proofs.Counts.{object-kind, object-length}
use Rattle.rows.specs.Places.{row_at, put}
use Rattle.objects.specs.Walk.{place, gain_before, column_from, objects_from}
use Rattle.objects.proofs.Columns.{put_column, put_columns, gains_from, gains-keep, gains-back, column-length}

module _ (n o : ℕ) (k : Kind) (s : List ℕ) (e : ℕ) (h : o < n) where
  -- past block 0
  later-blocks : (left b : ℕ) (r : Row) (t : List ℤ) (p : ℕ)
      → column_from n o k left (suc b) r t s e p ≡ map_parsed (λ us. put_column n o (suc b) (object_rows k r us (gains_from n o left (suc b) t)) t) (times left (update k false) s e p)
  unfolding column_from times object_rows put_column gains_from ◌>>=◌ pure
  later-blocks zero b r t p = refl
  later-blocks (suc left) b r t p =
      rw (ne_eqb (suc b) 0 (λ z. omega arith))
      (then-got (update k false s e p) _ _ (λ u q.
      let r' = updated k (gain_before n (suc b) o t) u r in
      let t' = put t (place n (suc b) o) r' in
      later-blocks left (suc b) r' t' q
      ∙ ap (λ gs. map_parsed (λ us. put_column n o (suc (suc b)) (object_rows k r' us gs) t') (times left (update k false) s e q)) (gains-keep n o left (suc b) (suc (suc b)) r' t h)
      ∙ sym (map_last (times left (update k false) s e q) _ _))
      ∙ sym (then_map (update k false s e p) _ _))

  one-object : (m : ℕ) (r : Row) (t : List ℤ) (p : ℕ)
      → column_from n o k (suc m) 0 r t s e p ≡ map_parsed (λ (x : Object). put_column n o 0 (object_rows k r x.updates (gains_from n o (suc m) 0 t)) t) (object m k s e p)
  unfolding column_from object object_rows put_column gains_from ◌>>=◌ pure
  one-object m r t p =
      then-got (update k true s e p) _ _ (λ u q.
      let r' = updated k (gain_before n 0 o t) u r in
      let t' = put t (place n 0 o) r' in
      later-blocks m 0 r' t' q
      ∙ ap (λ gs. map_parsed (λ us. put_column n o 1 (object_rows k r' us gs) t') (times m (update k false) s e q)) (gains-keep n o m 0 1 r' t h)
      ∙ sym (map_last (times m (update k false) s e q) _ _))
      ∙ sym (then_map (update k true s e p) _ _)

-- what an object is read as
abbrev Read : ℕ → Kind → Object → Type 0
Read m k x = (x.kind ≡ k) × (length x.updates ≡ suc m)

object-read : (m : ℕ) (k : Kind) → Always (Read m k) (object m k)
object-read m k = together (object-kind m k) (object-length m k)

module _ (n m : ℕ) (start : List ℤ) (s : List ℕ) (e : ℕ) where
  next_row : (o : ℕ) → drop row_width (drop (o * row_width) start) ≡ drop (suc o * row_width) start
  unfolding row_width
  next_row o =
      let e : o * row_width + row_width ≡ suc o * row_width = omega arith in
      drop-drop row_width (o * row_width) start ∙ ap (λ i. drop i start) e

  -- column by column, from object o on
  pub all-columns : (ks : List Kind) (o : ℕ) (t : List ℤ) (p : ℕ) → o + length ks ≤ n → suc m * n * row_width ≤ length t
      → objects_from n (suc m) start o ks t s e p
      ≡ map_parsed (λ os. put_columns n o (all_rows os (rows_of (length ks) (drop (o * row_width) start)) (gains_from n o (suc m) 0 t)) t) (each (object m) ks s e p)
  unfolding objects_from each all_rows rows_of put_columns row_at ◌>>=◌ pure
  all-columns [] o t p l u = refl
  all-columns (k ∷ ks) o t p l u =
      let r = row_at start (o * row_width) in
      let gs = gains_from n o (suc m) 0 t in
      ap (λ x. and_then x (λ t' q. objects_from n (suc m) start (suc o) ks t' s e q)) (one-object n o k s e (omega arith) m r t p)
      ∙ map-then (object m k s e p) _ _
      ∙ then-such (Read m k) (object m k s e p) _ _ ((object-read m k).ok s e p) (λ x q h.
      let rows = object_rows k r x.updates gs in
      let t' = put_column n o 0 rows t in
      let len : length rows ≡ suc m = object-rows-length k x.updates gs r ∙ h.1 in
      let more = each (object m) ks s e q in
      let back : gains_from n (suc o) (suc m) 0 t' ≡ map gain_of rows = rw len at (gains-back n (suc m) o 0 rows t (omega arith) (omega arith) u) in
      all-columns ks (suc o) t' q (omega arith) (rw (column-length n o 0 rows t) u)
      ∙ ap (λ rs. map_parsed (λ os. put_columns n (suc o) (all_rows os (rows_of (length ks) rs) (gains_from n (suc o) (suc m) 0 t')) t') more) (sym (next_row o))
      ∙ ap (λ g. map_parsed (λ os. put_columns n (suc o) (all_rows os (rows_of (length ks) (drop row_width (drop (o * row_width) start))) g) t') more) back
      ∙ ap (λ k'. map_parsed (λ os. put_columns n (suc o) (all_rows os (rows_of (length ks) (drop row_width (drop (o * row_width) start))) (map gain_of (object_rows k' r x.updates gs))) (put_column n o 0 (object_rows k' r x.updates gs) t)) more) (sym h.0)
      ∙ sym (map_last more _ _))
      ∙ sym (then_map (object m k s e p) _ _)
