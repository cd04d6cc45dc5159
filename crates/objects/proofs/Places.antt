-- The places of rows in the table of block rows: two rows do not meet, and each lies within the used numbers.
use Prim.Native.Nat.{ℕ, suc, ◌+◌, ◌*◌, ◌-◌, ◌<◌, ◌≤◌}
use mathlib.Core.Path.{◌≡◌}
use mathlib.Core.Logic.{◌⊎◌, inl, inr}
use native.Mathlib.Nat.{mul-le-mul_right, suc-mul}
use native.Mathlib.Decide.{dec_lt}
use native.Mathlib.Omega.{arith}
use Rattle.standard.specs.Numbers.{row_width}
use Rattle.objects.specs.Walk.{place}

block-order : (n b c : ℕ) → b < c → b * n + n ≤ c * n
block-order n b c h =
    let e : suc b * n ≤ c * n = mul-le-mul_right n h in
    let f : suc b * n ≡ b * n + n = suc-mul b n in
    omega arith

row-order : (n b c o q : ℕ) → b * n + o < c * n + q → place n b o + row_width ≤ place n c q
unfolding place row_width
row-order n b c o q h = omega arith

abbrev pub Apart : ℕ → ℕ → ℕ → ℕ → ℕ → Type 0
Apart n b o c q = (place n b o + row_width ≤ place n c q) ⊎ (place n c q + row_width ≤ place n b o)

-- rows of two objects or of two blocks
pub apart : (n b o c q : ℕ) → o < n → q < n → (b ≡ c → o ≡ q → ⊥) → Apart n b o c q
apart n b o c q h k d = by (dec_lt b c) (dec_lt c b) (dec_lt o q) (dec_lt q o)
  where
    by : Dec (b < c) → Dec (c < b) → Dec (o < q) → Dec (q < o) → (place n b o + row_width ≤ place n c q) ⊎ (place n c q + row_width ≤ place n b o)
    by (yes x) y z w = let l = block-order n b c x in inl (row-order n b c o q (omega arith))
    by (no x) (yes y) z w = let l = block-order n c b y in inr (row-order n c b q o (omega arith))
    by (no x) (no y) (yes z) w = let e : b ≡ c = omega arith in inl (row-order n b c o q (rw e (omega arith)))
    by (no x) (no y) (no z) (yes w) = let e : b ≡ c = omega arith in inr (row-order n c b q o (rw e (omega arith)))
    by (no x) (no y) (no z) (no w) = absurd (d (omega arith) (omega arith))

-- within m blocks
pub within : (n m b o : ℕ) → b < m → o < n → place n b o + row_width ≤ m * n * row_width
unfolding place row_width
within n m b o h k = let l = block-order n b m h in omega arith

-- the preceding object's row ends where this one begins
pub next-to : (n b o : ℕ) → 0 < o → place n b (o - 1) + row_width ≡ place n b o
unfolding place row_width
next-to n b o h = omega arith
