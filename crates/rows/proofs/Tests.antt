-- Laws of the tests of form: a number's bits, a number that is a count, and tests that are joined by `&`.
use Prim.Native.Nat.{ℕ, suc, ◌-◌, ◌^◌, ◌≤◌, ◌<◌}
use mathlib.Core.Path.{◌≡◌, refl, sym, ◌∙◌, ap}
use mathlib.Core.Bool.{Bool, true, false, ◌&&◌, and_assoc, and-true, and-eq-true_iff, false≢true}
use mathlib.Core.List.{List, [], ◌∷◌}
use native.Mathlib.Omega.{arith}
use borrow.Author.Tests.{eq-eqb, ne_eqb, eqb-true, eqb-false, leb-true}
use lib.Dec.{T, eqb, leb}
use lib.IntN.{ℤ, pos, negsuc, nat_abs}
use lib.Signed.{mag, non_neg}
use Rattle.std.proofs.lemmas.Bool.Decides.{nat_tests}
use mir.Syntax.{w16}
use mir.Val.{to_z, of_z}
use mir.Facts.{to_z-of_z}
use borrow.Author.Rules.{sfits_of}
use Rattle.std.specs.Ordering.{int_eq}
use Rattle.standard.specs.Numbers.{silence}
use Rattle.standard.specs.Rows.{eqℤ, is, is_silent}
use Rattle.standard.specs.Tables.{every, between}

-- A signed number in a local is its bits

pub back : {z : ℤ} → mag z < 2 ^ 15 → to_z w16 (of_z w16 z) ≡ z
back h = to_z-of_z {w = w16} (sfits_of h)

same_test : (a b c d : ℕ) → (a ≡ b → c ≡ d) → (c ≡ d → a ≡ b) → eqb a b ≡ eqb c d
same_test a b c d f g = go (eqb c d) refl
  where
    go : (t : Bool) → eqb c d ≡ t → eqb a b ≡ t
    go true e = eq-eqb a b (g (eqb-true c d e))
    go false e = ne_eqb a b (λ p. eqb-false c d e (f p))

pub bits-same : (v u : ℤ) → mag v < 2 ^ 15 → mag u < 2 ^ 15 → eqb (of_z w16 v) (of_z w16 u) ≡ eqℤ v u
bits-same (pos m) (pos n) h k = refl
bits-same (pos m) (negsuc n) h k = ne_eqb m (2 ^ 16 - suc n) (λ e. omega arith)
bits-same (negsuc m) (pos n) h k = ne_eqb (2 ^ 16 - suc m) n (λ e. omega arith)
bits-same (negsuc m) (negsuc n) h k = same_test (2 ^ 16 - suc m) (2 ^ 16 - suc n) m n (λ e. omega arith) (λ e. omega arith)

pub bits_is : (n : ℕ) (v : ℤ) → n < 2 ^ 15 → mag v < 2 ^ 15 → eqb (of_z w16 v) n ≡ is n v
bits_is n v k h = bits-same v (pos n) h k

pub bits-silent : (v : ℤ) → mag v < 2 ^ 15 → eqb (of_z w16 v) (of_z w16 silence) ≡ is_silent v
bits-silent v h = bits-same v silence h (omega arith)

-- A number from 0 to h is a count of at most h

pub between-nat : (h : ℕ) (z : ℤ) → between (pos 0) (pos h) z ≡ true → T (non_neg z) × (nat_abs z ≤ h)
between-nat h (pos n) e = (tt, leb-true n h ((and-eq-true_iff (leb 0 n) (leb n h)).0 e).1)
between-nat h (negsuc n) e = absurd (false≢true e)

-- What a derived `==` asks of two numbers

pub same-int : (x y : ℤ) → int_eq x y ≡ eqℤ x y
same-int (pos m) (pos n) = grind (arith, nat_tests)
same-int (pos m) (negsuc n) = refl
same-int (negsuc m) (pos n) = refl
same-int (negsuc m) (negsuc n) = grind (arith, nat_tests)

-- a & b & c .. is every one of them

abbrev pub joined : Bool → List Bool → Bool
joined a [] = a
joined a (b ∷ bs) = joined (a && b) bs

joined-every : (a : Bool) (bs : List Bool) → joined a bs ≡ every (a ∷ bs)
joined-every a [] = sym (and-true a)
joined-every a (b ∷ bs) = joined-every (a && b) bs ∙ and_assoc a b (every bs)

pub all_pass : {a : Bool} {bs : List Bool} (ts : List Bool) → (a ∷ bs) ≡ ts → joined a bs ≡ every ts
all_pass {a} {bs} ts e = joined-every a bs ∙ ap every e

-- for tests that are joined by `&`, in any brackets
pub ruleset joins = (and_assoc, and-true, back, bits_is, bits-silent, same-int)
