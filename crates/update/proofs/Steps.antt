-- A step: the sum of two numbers of 16 bits, saturated and then held between two ends.
use Rattle.std.proofs.Common.{◌≡◌, ◌^◌, ◌<◌, ◌≤ℤ◌, Bool, true, false, ℤ, pos, negsuc, cond, refl, arith}
use Rattle.std.specs.Int.{int_max, int_min, saturate_signed}
use Rattle.std.specs.Int.Signed.{lt_z}
use Rattle.std.proofs.lemmas.Int.{ints, clamps}
use lib.Signed.{mag}
use mir.Syntax.{w16}
use Rattle.standard.specs.Meaning.{clamp}

pub clamped : (lo hi v : ℤ) → lo ≤ℤ hi → mag lo < 2 ^ 15 → mag hi < 2 ^ 15 → int_max lo (int_min (saturate_signed w16 v) hi) ≡ clamp lo hi v
unfolding clamp
clamped lo hi v le l h = by v (lt_z v lo) (lt_z hi v) refl refl
  where
    by : (v : ℤ) (t u : Bool) → lt_z v lo ≡ t → lt_z hi v ≡ u → int_max lo (int_min (saturate_signed w16 v) hi) ≡ cond t lo (cond u hi v)
    by (pos n) true u e f = omega (arith, ints, clamps)
    by (pos n) false true e f = omega (arith, ints, clamps)
    by (pos n) false false e f = omega (arith, ints, clamps)
    by (negsuc n) true u e f = omega (arith, ints, clamps)
    by (negsuc n) false true e f = omega (arith, ints, clamps)
    by (negsuc n) false false e f = omega (arith, ints, clamps)
