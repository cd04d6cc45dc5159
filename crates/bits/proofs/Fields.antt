-- What every field has: it is below 2 to its width; and what a number has to which more bits may be added.
use Prim.Native.Nat.{ℕ, zero, suc, ◌+◌, ◌^◌, ◌<◌}
use mathlib.Core.Bool.{Bool, true, false, cond}
use mathlib.Core.List.{List}
use native.Mathlib.Omega.{arith}
use lib.Dec.{leb, eqb}
use Rattle.bits.specs.Bits.{bit_at, field}
use Rattle.bits.specs.Parsed.{Refusal, got, refused}
use Rattle.bits.specs.Reads.{read, extended}
use Rattle.bits.proofs.Always.{Ok, Always, bind, choose, given, mapped-such}

pub field_lt : (s : List ℕ) (p w : ℕ) → field s p w < 2 ^ w
unfolding field bit_at
field_lt s p zero = omega arith
field_lt s p (suc w) = let h = field_lt s p w in omega arith

pub read-lt : (w c : ℕ) → Always (λ v. v < 2 ^ w) (read w c)
unfolding read
read-lt w c = record { ok = λ s e p. go (leb (p + w) e) s p _ }
  where
    go : (b : Bool) (s : List ℕ) (p : ℕ) (r : Refusal) → Ok (λ v. v < 2 ^ w) (cond b (got (field s p w) (p + w)) (refused r))
    go true s p r = field_lt s p w
    go false s p r = tt

pub extended_lt : (w c largest w' c' : ℕ) → Always (λ v. v < 2 ^ w + (largest + 2 ^ w')) (extended w c largest w' c')
unfolding extended
extended_lt w c largest w' c' =
    bind _ (read-lt w c) λ v l. choose (eqb v largest) (mapped-such _ (read-lt w' c') (λ more l'. omega arith)) (given v (omega arith))
