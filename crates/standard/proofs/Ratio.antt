-- The quotient of two whole numbers in one division of floats: the exact quotient rounded once, and below 1 exactly where the exact quotient is.
use mathlib.Core.Path.{◌≡◌, refl, ◌∙◌}
use Prim.Native.Nat.{ℕ, ◌+◌, ◌*◌, ◌^◌, ◌≤◌, ◌<◌}
use native.Mathlib.Nat.{le_of_eq, mul_comm, mul_assoc, mul_left_comm, mul-pos}
use native.Mathlib.Omega.{arith}
use mathlib.Core.Bool.{Bool, true, false, ◌||◌, ◌&&◌}
use borrow.Author.Tests.{ltb-true, ltb-false, lt-ltb, le-ltb, ne_eqb}
use lib.IntN.{pos, negsuc}
use lib.Dec.{T, ltb, eqb, ltb→lt, eqb→eq}
use lib.Ieee.{Float, nan, inf, fin, Format, binary32, up, down, round, div, of_int, lt, le}
use lib.Ieee.Fits.{down_pos}
use lib.Ieee.Exact.{HasValue}
use lib.Ieee.Order.{round_mono}
use lib.Ieee.Scale.{round_same}
use lib.Ieee.Positive.{first_pos, above_of_le}
use lib.Ieee.Back.{round_whole}
use Rattle.standard.specs.Floats.{one, ratio}

-- The quotient of floats that hold whole numbers, the second not zero
div-whole : (f : Format) (x y : Float) (a b : ℕ) → 0 < b → HasValue x false a 1 → HasValue y false b 1 → div f x y ≡ round f false a b
unfolding div
div-whole f nan y a b B h k = absurd h
div-whole f (inf u) y a b B h k = absurd h
div-whole f (fin u m e) nan a b B h k = absurd k
div-whole f (fin u m e) (inf v) a b B h k = absurd k
div-whole f (fin u m e) (fin v n g) a b B h k =
    let x : m * up e ≡ a * down e = omega (arith, h.1) in
    let y : n * up g ≡ b * down g = omega (arith, k.1) in
    let Y : 0 < n * up g = rw y (mul-pos B (down_pos g)) in
    let N = first_pos n (up g) Y in
    let cross : m * up e * down g * b ≡ a * (n * up g * down e) = rw (x, y) (simp (mul_assoc, mul_comm, mul_left_comm)) in
    rw (h.0, k.0, ne_eqb n 0 (λ z. omega arith)) (round_same f false (m * up e * down g) (n * up g * down e) a b (mul-pos Y (down_pos e)) B cross)

-- The f32 quotient of whole numbers up to 2 ^ 24 is the exact quotient, rounded once
pub ratio-is : (a b : ℕ) → a ≤ 2 ^ 24 → 0 < b → b ≤ 2 ^ 24 → ratio (pos a) b ≡ round binary32 false a b
unfolding of_int
ratio-is a b A P B = div-whole binary32 (round binary32 false a 1) (round binary32 false b 1) a b P (round_whole binary32 false a A) (round_whole binary32 false b B)

-- the last f32 below 1
abbrev nearly : Float
nearly = fin false 16777215 (negsuc 23)

nearly-is : round binary32 false 16777215 16777216 ≡ nearly
unfolding round
nearly-is = refl

one-is : round binary32 false 1 1 ≡ one
unfolding round
one-is = refl

or-le : (a b : ℕ) → T (ltb a b || (eqb a b && true)) → a ≤ b
or-le a b t = go (ltb a b) (eqb a b) (ltb→lt a b) (eqb→eq a b) t
  where
    go : (x y : Bool) → (T x → a < b) → (T y → a ≡ b) → T (x || (y && true)) → a ≤ b
    go true y l e t = let h = l tt in omega arith
    go false true l e t = le_of_eq (e tt)
    go false false l e t = absurd t

below_one : (x : Float) → T (le x nearly) → lt x one ≡ true
unfolding lt le
below_one nan t = absurd t
below_one (inf true) t = refl
below_one (inf false) t = absurd t
below_one (fin true m e) t = let d = down_pos e in lt-ltb 0 (m * up e * 1 + 1 * 1 * down e) (omega arith)
below_one (fin false m e) t =
    let h = or-le (m * up e * 16777216) (16777215 * 1 * down e) t in
    let d = down_pos e in
    lt-ltb (m * up e * 1) (1 * 1 * down e) (omega arith)

from_one : (x : Float) → T (le one x) → lt x one ≡ false
unfolding lt le
from_one nan t = refl
from_one (inf true) t = absurd t
from_one (inf false) t = refl
from_one (fin true m e) t = absurd (above_of_le one (fin true m e) tt t)
from_one (fin false m e) t = let h = or-le (1 * 1 * down e) (m * up e * 1) t in le-ltb (m * up e * 1) (1 * 1 * down e) (omega arith)

-- and it is below 1 exactly where a is below b
pub ratio-below : (a b : ℕ) → a ≤ 2 ^ 24 → 0 < b → b ≤ 2 ^ 24 → lt (ratio (pos a) b) one ≡ ltb a b
ratio-below a b A P B = rw (ratio-is a b A P B) (go (ltb a b) (ltb-true a b) (ltb-false a b))
  where
    go : (t : Bool) → (t ≡ true → a < b) → (t ≡ false → b ≤ a) → lt (round binary32 false a b) one ≡ t
    go true h k = below_one _ (rw nearly-is at (round_mono binary32 a b 16777215 16777216 P (omega arith) (let l = h refl in omega arith)))
    go false h k = from_one _ (rw one-is at (round_mono binary32 1 1 a b (omega arith) P (let l = k refl in omega arith)))

-- n / n is 1
pub ratio-one : (n : ℕ) → 0 < n → n ≤ 2 ^ 24 → ratio (pos n) n ≡ one
ratio-one n P B = ratio-is n n B P B ∙ round_same binary32 false n n 1 1 P (omega arith) (mul_comm n 1) ∙ one-is
