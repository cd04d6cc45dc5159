-- The upper half of the range stands for the numbers below zero.
use Prim.Native.Nat.{ℕ, ◌-◌, ◌^◌, ◌≤◌, ◌<◌}
use mathlib.Core.Path.{◌≡◌}
use native.Mathlib.Omega.{arith}
use borrow.Author.Tests.{lt-ltb, le-ltb}
use lib.IntN.{◌-ℤ◌}
use lib.Pow.{pow_mono}
use mir.Syntax.{w16}
use mir.Val.{SFits, to_z}
use mir.Facts.{to_z-of_z, to_z_pos}
use Rattle.bits.specs.Reads.{signed}
use Rattle.bits.proofs.Signs.{minus, signed-mag}
use Rattle.bits.proofs.values.with_sign.Goals as goal
use Rattle.bits.proofs.values.with_sign.Goals.{After-two_to-else-value-two_to}

power_le : (w : ℕ) → w < 15 → 2 ^ w ≤ 16384
power_le w h = pow_mono {j = 14} (omega arith)

difference : (c : After-two_to-else-value-two_to) →
    to_z w16 c.args.value -ℤ to_z w16 c.two_to-else-value-two_to.result ≡ signed c.args.width c.args.value
unfolding signed
difference c =
    let l = power_le c.args.width (omega arith) in
    rw (c.two_to-else-value-two_to.ensures, to_z_pos w16 {n = c.args.value} (omega arith), to_z_pos w16 {n = 2 ^ c.args.width} (omega arith), le-ltb c.args.value (2 ^ (c.args.width - 1)) (omega arith))
    (minus c.args.value (2 ^ c.args.width))

fits : (c : After-two_to-else-value-two_to) →
    SFits w16 (signed c.args.width c.args.value)
fits c =
    record { sfits = omega (arith, signed-mag c.args.width c.args.value (omega arith) (omega arith), power_le (c.args.width - 1) (omega arith)) }

pub returns-then-value-two_to : goal.returns-then-value-two_to
unfolding signed
returns-then-value-two_to c =
    let l = power_le c.args.width (omega arith) in
    rw (to_z_pos w16 {n = c.args.value} (omega arith), lt-ltb c.args.value (2 ^ (c.args.width - 1)) (omega arith))

pub overflow_cast-result : goal.overflow_cast-result
overflow_cast-result c = record { sfits = omega (arith, power_le c.args.width (omega arith)) }

pub overflow_sub-result : goal.overflow_sub-result
overflow_sub-result c =
    let at = (goal.at.overflow_sub-result c).After-two_to-else-value-two_to in
    rw (difference at) (fits at)

pub returns-else-value-two_to : goal.returns-else-value-two_to
returns-else-value-two_to c =
    let at = (goal.at.returns-else-value-two_to c).After-two_to-else-value-two_to in
    rw (difference at) (to_z-of_z (fits at))
