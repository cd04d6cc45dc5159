-- Turns of the loops over blocks and over objects.
use Rattle.std.proofs.Common.{◌≡◌, ℕ, suc, ◌+◌, ◌*◌, ◌-◌, ◌≤◌, ◌<◌, List, map, length, drop, ℤ, refl, ◌∙◌, add-one, arith}
use lib.Dec.{eqb}
use lib.ListN.{get_or, length-map, drop_of_length-le, get_or-map}
use lib.Seq.{drop-cons}
use Rattle.bits.specs.Parsed.{Parser, ◌>>=◌, pure}
use Rattle.standard.specs.Numbers.{row_width}
use Rattle.standard.specs.Tree.{Kind, Update}
use Rattle.standard.specs.Updates.{update}
use Rattle.standard.specs.Rows.{Row}
use Rattle.standard.specs.Meaning.{updated}
use Rattle.rows.specs.Places.{row_at, put}
use Rattle.rows.specs.Kinds.{kind_said}
use Rattle.rows.specs.declared.row.Kind as code
use Rattle.rows.proofs.Puts.{length-put, drop-put}
use Rattle.objects.specs.Fills.{Filled}
use Rattle.objects.specs.Walk.{place, gain_before, column_from, objects_from}

-- One object

module _ (n o : ℕ) (k : Kind) where
  -- what is left after block b, of which u was said
  abbrev pub after_block : ℕ → ℕ → Row → List ℤ → Update → Parser (List ℤ)
  after_block m b r t u =
      let r' = updated k (gain_before n b o t) u r in
      column_from n o k (m - (b + 1)) (b + 1) r' (put t (place n b o) r')

  pub block_more : (m b : ℕ) (r : Row) (t : List ℤ) → b < m → (s : List ℕ) (e p : ℕ) → column_from n o k (m - b) b r t s e p ≡ (update k (eqb b 0) >>= after_block m b r t) s e p
  unfolding column_from ◌>>=◌
  block_more m b r t h s e p =
      let j : m - b ≡ suc (m - (b + 1)) = omega arith in
      rw (j, after_block, add-one)

  pub blocks-done : (m b : ℕ) (r : Row) (t : List ℤ) → m ≤ b → (s : List ℕ) (e p : ℕ) → column_from n o k (m - b) b r t s e p ≡ pure t s e p
  unfolding column_from pure
  blocks-done m b r t h s e p = let j : m - b ≡ 0 = omega arith in rw j

-- a row was put within the first N numbers
pub put-within : {N : ℕ} {t₀ t : List ℤ} (at : ℕ) (r : Row) → Filled N t₀ t → at + row_width ≤ N → Filled N t₀ (put t at r)
put-within {N} {t₀} {t} at r f h = record { long = length-put t at r ∙ f.long; rest = drop-put N t at r h ∙ f.rest }

-- All objects

module _ (m : ℕ) (kinds : List Kind) (start : List ℤ) where
  -- the objects from o on
  unfoldable pub objects_left : ℕ → List ℤ → Parser (List ℤ)
  objects_left o t = objects_from (length kinds) m start o (drop o kinds) t

  module _ (s : List ℕ) (e p : ℕ) where
    pub objects-begun : (t : List ℤ) → objects_from (length kinds) m start 0 kinds t s e p ≡ objects_left 0 t s e p
    unfolding objects_left
    objects-begun t = refl

    pub object-more : (d : Kind) (o : ℕ) (t : List ℤ) → o < length kinds
        → objects_left o t s e p ≡ (column_from (length kinds) o (get_or kinds o d) m 0 (row_at start (o * row_width)) t >>= objects_left (o + 1)) s e p
    unfolding objects_left objects_from ◌>>=◌
    object-more d o t h = rw (drop-cons kinds o d h, add-one)

    pub objects-done : (o : ℕ) (t : List ℤ) → length kinds ≤ o → objects_left o t s e p ≡ pure t s e p
    unfolding objects_left objects_from pure
    objects-done o t h = rw (drop_of_length-le kinds {i = o} h)

-- the same of the kinds that the code holds
module _ (m : ℕ) (codes : List code.Kind) (start : List ℤ) (s : List ℕ) (e p : ℕ) where
  pub codes-begun : (t : List ℤ) → objects_from (length codes) m start 0 (map kind_said codes) t s e p ≡ objects_left m (map kind_said codes) start 0 t s e p
  codes-begun t = rw (length-map codes kind_said) at (objects-begun m (map kind_said codes) start s e p t)

  pub code-more : (d : code.Kind) (o : ℕ) (t : List ℤ) → o < length codes
      → objects_left m (map kind_said codes) start o t s e p ≡ (column_from (length codes) o (kind_said (get_or codes o d)) m 0 (row_at start (o * row_width)) t >>= objects_left m (map kind_said codes) start (o + 1)) s e p
  code-more d o t h =
      rw (length-map codes kind_said, get_or-map kind_said codes o d) at (object-more m (map kind_said codes) start s e p (kind_said d) o t (omega (arith, h, length-map codes kind_said)))

  pub codes-done : (o : ℕ) (t : List ℤ) → length codes ≤ o → objects_left m (map kind_said codes) start o t s e p ≡ pure t s e p
  codes-done o t h = objects-done m (map kind_said codes) start s e p o t (omega (arith, h, length-map codes kind_said))
