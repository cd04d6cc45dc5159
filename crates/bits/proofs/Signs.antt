-- Numbers with a sign: a difference, and that every field with a sign lies within half of its range to either side of zero.
use Prim.Native.Nat.{ℕ, zero, suc, ◌-◌, ◌^◌, ◌<◌}
use mathlib.Core.Bool.{Bool, true, false, cond}
use mathlib.Core.Path.{◌≡◌, refl, ap}
use native.Mathlib.Nat.{pow-suc}
use native.Mathlib.Omega.{arith}
use lib.Dec.{ltb}
use lib.IntN.{pos, sub_ℕ, ◌-ℤ◌}
use lib.Signed.{mag}
use borrow.Author.Tests.{ltb-true, ltb-false, lt-ltb, le-ltb}
use Rattle.bits.specs.Reads.{signed, read_signed}
use Rattle.bits.proofs.Always.{Always, mapped-such}
use Rattle.bits.proofs.Fields.{read-lt}

pub minus : (a b : ℕ) → pos a -ℤ pos b ≡ sub_ℕ a b
minus a zero = rw (le-ltb a 0 (omega arith)) (ap pos (omega arith))
minus a (suc b) = refl

-- from - 2 ^ (w - 1) to 2 ^ (w - 1) - 1: mag z is z, or - z - 1 below zero
pub signed-mag : (w v : ℕ) → 0 < w → v < 2 ^ w → mag (signed w v) < 2 ^ (w - 1)
unfolding signed
signed-mag zero v h l = absurd (omega arith)
signed-mag (suc k) v h l = go (ltb v (2 ^ (suc k - 1))) refl
  where
    go : (b : Bool) → ltb v (2 ^ (suc k - 1)) ≡ b → mag (cond b (pos v) (sub_ℕ v (2 ^ suc k))) < 2 ^ (suc k - 1)
    go true t = ltb-true _ _ t
    go false t =
        let j : suc k - 1 ≡ k = omega arith in
        rw (j, lt-ltb v (2 ^ suc k) l, pow-suc) (omega (arith, rw j at (ltb-false v (2 ^ (suc k - 1)) t)))

pub signed_lt : (w c : ℕ) → 0 < w → Always (λ z. mag z < 2 ^ (w - 1)) (read_signed w c)
unfolding read_signed
signed_lt w c h = mapped-such _ (read-lt w c) (λ v l. signed-mag w v h l)
