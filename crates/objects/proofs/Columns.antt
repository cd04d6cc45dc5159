-- Rows written down the column of an object, and column by column: what each write leaves and what is read back.
use Prim.Native.Nat.{ℕ, zero, suc, ◌+◌, ◌*◌, ◌<◌, ◌≤◌}
use mathlib.Core.Path.{◌≡◌, refl, sym, ◌∙◌, ap}
use mathlib.Core.List.{List, [], ◌∷◌, map}
use native.Mathlib.Omega.{arith}
use lib.IntN.{ℤ}
use lib.ListN.{length, get_or}
use Rattle.standard.specs.Numbers.{row_width}
use Rattle.standard.specs.Rows.{Row, no_row}
use Rattle.standard.specs.Meaning.{gain_of}
use Rattle.rows.specs.Places.{row_at, put}
use Rattle.objects.specs.Walk.{place, gain_before}
use Rattle.rows.proofs.Puts.{length-put, put_same, put_other}
use Rattle.objects.proofs.Places.{apart, within}

-- Column o from block b on, and the columns from o on

unfoldable pub put_column : ℕ → ℕ → ℕ → List Row → List ℤ → List ℤ
put_column n o b [] t = t
put_column n o b (r ∷ rs) t = put_column n o (suc b) rs (put t (place n b o) r)

unfoldable pub put_columns : ℕ → ℕ → List (List Row) → List ℤ → List ℤ
put_columns n o [] t = t
put_columns n o (rs ∷ rss) t = put_columns n (suc o) rss (put_column n o 0 rs t)

-- the preceding object's gains in `left` blocks from block b on
unfoldable pub gains_from : ℕ → ℕ → ℕ → ℕ → List ℤ → List ℤ
gains_from n o zero b t = []
gains_from n o (suc left) b t = gain_before n b o t ∷ gains_from n o left (suc b) t

-- What is seen of a table and no write of these rows can change

module _ {B : Type 0} (see : List ℤ → B) (n : ℕ) where
  pub column-keeps : (o b : ℕ) (rs : List Row) (t : List ℤ) → ((t : List ℤ) (c : ℕ) (r : Row) → b ≤ c → c < b + length rs → see (put t (place n c o) r) ≡ see t)
      → see (put_column n o b rs t) ≡ see t
  unfolding put_column
  column-keeps o b [] t h = refl
  column-keeps o b (r ∷ rs) t h =
      column-keeps o (suc b) rs (put t (place n b o) r) (λ t c r l u. h t c r (omega arith) (omega arith)) ∙ h t b r (omega arith) (omega arith)

-- Rows

module _ (n : ℕ) where
  pub other-column : (o q c b : ℕ) (rs : List Row) (t : List ℤ) → o < n → q < n → (o ≡ q → ⊥) → row_at (put_column n o b rs t) (place n c q) ≡ row_at t (place n c q)
  other-column o q c b rs t h k d =
      column-keeps (λ u. row_at u (place n c q)) n o b rs t (λ u a r l m. put_other u (place n a o) (place n c q) r (apart n c q a o k h (λ e f. d (sym f))))

  earlier-block : (o c b : ℕ) (rs : List Row) (t : List ℤ) → o < n → c < b → row_at (put_column n o b rs t) (place n c o) ≡ row_at t (place n c o)
  earlier-block o c b rs t h k =
      column-keeps (λ u. row_at u (place n c o)) n o b rs t (λ u a r l m. put_other u (place n a o) (place n c o) r (apart n c o a o h h (λ e f. omega arith)))

  pub column-length : (o b : ℕ) (rs : List Row) (t : List ℤ) → length (put_column n o b rs t) ≡ length t
  column-length o b rs t = column-keeps length n o b rs t (λ u a r l m. length-put u (place n a o) r)

  -- the row of block c in a column that was written from block b on
  pub column-row : (m o b i : ℕ) (rs : List Row) (t : List ℤ) → o < n → i < length rs → b + length rs ≤ m → m * n * row_width ≤ length t
      → row_at (put_column n o b rs t) (place n (b + i) o) ≡ get_or rs i no_row
  unfolding put_column
  column-row m o b i [] t h k l u = absurd (omega arith)
  column-row m o b zero (r ∷ rs) t h k l u =
      let e : b + 0 ≡ b = omega arith in
      let w = within n m b o (omega arith) h in
      rw e (earlier-block o b (suc b) rs (put t (place n b o) r) h (omega arith) ∙ put_same t (place n b o) r (omega arith))
  column-row m o b (suc i) (r ∷ rs) t h k l u =
      let e : b + suc i ≡ suc b + i = omega arith in
      rw e (column-row m o (suc b) i rs (put t (place n b o) r) h (omega arith) (omega arith) (rw length-put u))

  -- Gains

  gain-keeps : (o b c : ℕ) (r : Row) (t : List ℤ) → o < n → gain_before n c o (put t (place n b o) r) ≡ gain_before n c o t
  unfolding gain_before
  gain-keeps zero b c r t h = refl
  gain-keeps (suc o) b c r t h =
      ap (λ (x : Row). x.gain) (put_other t (place n b (suc o)) (place n c o) r (apart n c o b (suc o) (omega arith) h (λ e f. omega arith)))

  -- a row of this column does not change the gains before it
  pub gains-keep : (o left b c : ℕ) (r : Row) (t : List ℤ) → o < n → gains_from n o left c (put t (place n b o) r) ≡ gains_from n o left c t
  unfolding gains_from
  gains-keep o zero b c r t h = refl
  gains-keep o (suc left) b c r t h = λ i. gain-keeps o b c r t h i ∷ gains-keep o left b (suc c) r t h i

  -- the gains of a column, read back as those before the next object
  pub gains-back : (m o b : ℕ) (rs : List Row) (t : List ℤ) → o < n → b + length rs ≤ m → m * n * row_width ≤ length t
      → gains_from n (suc o) (length rs) b (put_column n o b rs t) ≡ map gain_of rs
  unfolding gains_from put_column gain_before
  gains-back m o b [] t h l u = refl
  gains-back m o b (r ∷ rs) t h l u =
      let t' : List ℤ = put t (place n b o) r in
      let w = within n m b o (omega arith) h in
      let e : row_at (put_column n o (suc b) rs t') (place n b o) ≡ r = earlier-block o b (suc b) rs t' h (omega arith) ∙ put_same t (place n b o) r (omega arith) in
      λ i. (e i).gain ∷ gains-back m o (suc b) rs t' h (omega arith) (rw length-put u) i
