-- The first 1 is the highest digit of the number.
use Prim.Native.Nat.{ℕ, suc, ◌+◌, ◌-◌, ◌/◌, ◌^◌, ◌≤◌, ◌<◌}
use mathlib.Core.Path.{◌≡◌}
use native.Mathlib.Nat.{le-div_iff_mul-le, lt_of_not-le}
use native.Mathlib.Omega.{arith}
use lib.Count.{count_leading_zeros, leading_top}
use lib.Pow.{pow_pos, pow_mono, shr_lt}
use Rattle.bits.proofs.values.zeros_before.Goals as goal

-- the 1 has j digits below it
record Highest (n w : ℕ) : Type 0 where
  j : ℕ
  count : count_leading_zeros 32 n + suc j ≡ 32
  inside : j < w
  first : n / 2 ^ j ≡ 1

highest : (n w : ℕ) → 0 < n → n < 2 ^ 32 → n < 2 ^ w → Highest n w
highest n w h f l =
    let t = leading_top 32 n h f in
    let e : suc t.0 ≡ 1 + t.0 = omega arith in
    let low : 1 ≤ n / 2 ^ t.0 = (le-div_iff_mul-le (pow_pos t.0)).1 (omega (arith, t.2)) in
    let high = shr_lt {n = n} 1 t.0 (rw (← e) t.3) in
    record {
      j = t.0;
      count = t.1;
      inside = lt_of_not-le (λ k. omega (arith, pow_mono k, t.2));
      first = omega (arith, low, high);
    }

pub overflow_sub-result-2 : goal.overflow_sub-result-2
overflow_sub-result-2 c =
    let t = highest c.args.number c.args.width (omega arith) (omega arith) (omega arith) in
    omega (arith, t.count, t.inside)

pub returns : goal.returns
returns c =
    let t = highest c.args.number c.args.width (omega arith) (omega arith) (omega arith) in
    let e : c.args.width - 1 - (c.args.width - (32 - count_leading_zeros 32 c.args.number)) ≡ t.j = omega (arith, t.count, t.inside) in
    (omega (arith, t.count, t.inside), rw e t.first)
