-- Small facts on tests and lists that several proofs use.
use Prim.Native.Nat.{ℕ}
use mathlib.Core.Path.{◌≡◌, refl, ap}
use mathlib.Core.Bool.{Bool, true, false, ◌&&◌, false≢true}
use mathlib.Core.List.{List, [], ◌∷◌}
use native.Mathlib.Omega.{arith}
use borrow.Author.Tests.{eqb-true}
use lib.IntN.{ℤ, pos, negsuc}
use Rattle.bits.proofs.Always.{All}
use Rattle.standard.specs.Rows.{Row, eqℤ, is}
use Rattle.standard.specs.Meaning.{last_row}

-- Tests

pub and_left : (x y : Bool) → (x && y) ≡ true → x ≡ true
and_left true y h = refl
and_left false y h = h

pub and_right : (x y : Bool) → (x && y) ≡ true → y ≡ true
and_right true y h = h
and_right false y h = cc

pub both : (x y : Bool) → x ≡ true → y ≡ true → (x && y) ≡ true
both x y p q = rw (p, q)

pub eqℤ-true : (x y : ℤ) → eqℤ x y ≡ true → x ≡ y
eqℤ-true (pos m) (pos n) h = ap pos (eqb-true m n h)
eqℤ-true (pos m) (negsuc n) h = absurd (false≢true h)
eqℤ-true (negsuc m) (pos n) h = absurd (false≢true h)
eqℤ-true (negsuc m) (negsuc n) h = ap negsuc (eqb-true m n h)

pub number_is_lem : (n : ℕ) (z : ℤ) → is n z ≡ true → z ≡ pos n
number_is_lem n z h = eqℤ-true z (pos n) h

pub nought-differs : ◌≡◌ {A = ℤ} (pos 0) (pos 1) → ⊥
nought-differs e = let z : ◌≡◌ {A = ℕ} 0 1 = cc in omega arith

-- Lists

module _ {A B : Type 0} where
  -- element by element, and of one length
  abbrev pub Pairs : (A → B → Type 0) → List A → List B → Type 0
  Pairs R [] [] = Unit {0}
  Pairs R [] (b ∷ ys) = ⊥
  Pairs R (a ∷ xs) [] = ⊥
  Pairs R (a ∷ xs) (b ∷ ys) = R a b × Pairs R xs ys

pub last-all : (P : Row → Type 0) (r : Row) (rs : List Row) → All P (r ∷ rs) → P (last_row (r ∷ rs))
unfolding last_row
last-all P r [] h = h.0
last-all P r (q ∷ rs) h = last-all P q rs h.1
