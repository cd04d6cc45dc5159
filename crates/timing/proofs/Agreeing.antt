-- Kinds that agree: pair by pair of rows, and never by other counts.
use Prim.Native.Nat.{ℕ, zero, suc}
use mathlib.Core.Path.{◌≡◌, refl}
use mathlib.Core.Bool.{Bool, false, and-false}
use mathlib.Core.List.{List, [], ◌∷◌}
use native.Mathlib.Omega.{arith}
use lib.IntN.{ℤ, pos}
use lib.ListN.{length, get_or, drop}
use Rattle.std.specs.List.{list_all, zip}
use Rattle.std.specs.Simd.{first_chunks}
use Rattle.standard.specs.Numbers.{row_width}
use Rattle.standard.specs.Rows.{Row, eqℤ}
use Rattle.standard.specs.Tables.{row_of, rows_of}
use Rattle.standard.specs.Carried.{kinds_agree}

-- of two rows, as their numbers
abbrev pub same_kind : List ℤ × List ℤ → Bool
same_kind p = eqℤ (get_or p.0 0 (pos 0)) (get_or p.1 0 (pos 0))

pub pairs-agree : (n : ℕ) (l m : List ℤ) → list_all same_kind (zip (first_chunks row_width n l) (first_chunks row_width n m)) ≡ kinds_agree (rows_of n l) (rows_of n m)
unfolding row_of rows_of kinds_agree
pairs-agree zero l m = refl
pairs-agree (suc n) l m = rw (pairs-agree n (drop row_width l) (drop row_width m))

-- another count of objects is a change of kinds
pub unlike-counts : (qs rs : List Row) → (length qs ≡ length rs → ⊥) → kinds_agree qs rs ≡ false
unfolding kinds_agree
unlike-counts [] [] h = absurd (h refl)
unlike-counts [] (r ∷ rs) h = refl
unlike-counts (q ∷ qs) [] h = refl
unlike-counts (q ∷ qs) (r ∷ rs) h = rw (unlike-counts qs rs (λ e. h (omega arith)), and-false)
