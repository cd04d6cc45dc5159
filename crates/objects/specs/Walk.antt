-- The walk through the table of block rows: object by object, and in each block by block, its words and then what they do.
use Rattle.std.specs.Prelude.{ℕ, zero, suc, ◌+◌, ◌*◌, List, [], ◌∷◌, eqb, ℤ, pos}
use Rattle.bits.specs.Parsed.{Parser, ◌>>=◌, pure}
use Rattle.standard.specs.Numbers.{row_width}
use Rattle.standard.specs.Tree.{Kind}
use Rattle.standard.specs.Updates.{update}
use Rattle.standard.specs.Rows.{Row}
use Rattle.standard.specs.Meaning.{updated}
use Rattle.rows.specs.Places.{row_at, put}

-- where the row of block b, object o begins, with n objects
unfoldable pub place : ℕ → ℕ → ℕ → ℕ
place n b o = (b * n + o) * row_width

-- the preceding object's gain in block b, as the table has it; none before object 0
unfoldable pub gain_before : ℕ → ℕ → ℕ → List ℤ → ℤ
gain_before n b zero t = pos 0
gain_before n b (suc o) t = (row_at t (place n b o)).gain

-- object o, of kind k, in `left` blocks from block b on, after the row r
unfoldable pub column_from : ℕ → ℕ → Kind → ℕ → ℕ → Row → List ℤ → Parser (List ℤ)
column_from n o k zero b r t = pure t
column_from n o k (suc left) b r t =
    update k (eqb b 0) >>= λ u.
    let r' = updated k (gain_before n b o t) u r in
    column_from n o k left (suc b) r' (put t (place n b o) r')

-- the objects of these kinds from object o on, of n in m blocks, each after its start row
unfoldable pub objects_from : ℕ → ℕ → List ℤ → ℕ → List Kind → List ℤ → Parser (List ℤ)
objects_from n m start o [] t = pure t
objects_from n m start o (k ∷ ks) t = do
  t' ← column_from n o k m 0 (row_at start (o * row_width)) t
  objects_from n m start (suc o) ks t'
